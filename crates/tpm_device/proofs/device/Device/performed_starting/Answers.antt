use Rattle.std.proofs.Common.{rules, ◌≡◌, Err, sym}
use Rattle.tpm_commands.specs.declared.command.CommandBody.TheVariants as bodies
use Rattle.tpm_commands.specs.declared.command.ReplyBody.TheVariants as replies
use Rattle.tpm_device.specs.inner.Performing.{Begin}
use Rattle.tpm_device.proofs.Acting.{body_done, body_refused, fault_refuses, starting_needs_none}
use Rattle.tpm_device.proofs.Passing.{stays_authorized}
use Rattle.tpm_device.proofs.device.Device.performed_starting.Goals as goal

pub put_started-requires-clause-own : goal.put_started-requires-clause-own
put_started-requires-clause-own c =
    stays_authorized c.args.self.now c.started.new.self c.args.areas.now c.args.by.now c.args.out.now c.requires.ready
    (λ needs. absurd (starting_needs_none c.args.areas.now.header.code c.requires.starts needs))

pub returns : goal.returns
returns c =
    let x = c.args.areas.now in
    let old : Begin = record { device = c.args.self.now; nonce = c.args.nonce.now; out = c.args.out.now } in
    let body = bodies.StartAuthSession c.in_ok-start.start in
    let read = c.in_ok-start.ensures.read in
    body_done old c.started.new.self c.roll.new.self x c.args.by.now read.0 body (replies.StartAuthSession c.in_ok-reply.reply) c.put_started.new.out
    c.requires.ready (rw c.requires.starts read.1) read.2 (sym c.requires.starts) c.in_ok-reply.ensures.answer c.in_ok-reply.ensures.stands
    c.put_started.ensures.bytes c.put_started.ensures.done
    (c.roll.ensures x (stays_authorized c.args.self.now c.started.new.self x c.args.by.now c.args.out.now c.requires.ready
    (λ needs. absurd (starting_needs_none x.header.code c.requires.starts needs))))

pub returns-in_err-start : goal.returns-in_err-start
returns-in_err-start c =
    let x = c.args.areas.now in
    let old : Begin = record { device = c.args.self.now; nonce = c.args.nonce.now; out = c.args.out.now } in
    let faulty = c.in_err-start.ensures.faulty in
    let is : c.from_residual.result ≡ Err c.in_err-start.field-0.0 = search rules in
    rw is (fault_refuses old x faulty.0 c.in_err-start.field-0.0 (rw c.requires.starts faulty.1) faulty.2)

pub returns-in_err-reply : goal.returns-in_err-reply
returns-in_err-reply c =
    let x = c.args.areas.now in
    let old : Begin = record { device = c.args.self.now; nonce = c.args.nonce.now; out = c.args.out.now } in
    let read = c.in_ok-start.ensures.read in
    let is : c.from_residual-in_err-reply.result ≡ Err c.in_err-reply.field-0.0 = search rules in
    rw is (body_refused old c.started.new.self x read.0 (bodies.StartAuthSession c.in_ok-start.start) c.in_err-reply.field-0.0
    (rw c.requires.starts read.1) read.2 c.in_err-reply.ensures.answer c.in_err-reply.ensures.refused)
