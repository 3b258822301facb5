use Rattle.std.proofs.Common.{rules, ◌≡◌, ℕ, Err, refl, sym, ap, ◌∙◌}
use Rattle.tpm_commands.specs.declared.command.CommandBody.TheVariants as bodies
use Rattle.tpm_commands.specs.Handles.{first}
use Rattle.tpm_commands.specs.declared.command.Params.TheVariants as params
use Rattle.tpm_commands.specs.declared.command.ReplyBody.TheVariants as replies
use Rattle.tpm_buffer.specs.Commands.{policy_in}
use Rattle.tpm_device.specs.inner.Performing.{Begin}
use Rattle.tpm_device.proofs.Acting.{body_done, body_refused, fault_refuses, asserting_needs_none}
use Rattle.tpm_device.proofs.Passing.{stays_authorized}
use Rattle.tpm_device.proofs.device.Device.performed_asserting.Goals as goal

pub put_bare-requires-clause-own : goal.put_bare-requires-clause-own
put_bare-requires-clause-own c =
    stays_authorized c.args.self.now c.policy_pcr.new.self c.args.areas.now c.args.by.now c.args.out.now c.requires.ready
    (λ needs. absurd (asserting_needs_none c.args.areas.now.header.code c.requires.asserts needs))

pub returns : goal.returns
returns c =
    let x = c.args.areas.now in
    let n = c.args.nonce.now in
    let old : Begin = record { device = c.args.self.now; nonce = n; out = c.args.out.now } in
    let asked = c.in_ok-asserted.asserted in
    let named = sym (c.policy_in-session.ensures ∙ ap policy_in (c.first_handle.ensures ∙ ap first c.handles.ensures)) in
    body_done old c.policy_pcr.new.self c.roll.new.self x c.args.by.now (params.PolicyPcr asked)
    (bodies.PolicyPcr c.policy_in-session.result asked) replies.PolicyPcr c.put_bare.new.out
    c.requires.ready (rw c.requires.asserts c.in_ok-asserted.ensures.read)
    (ap (λ (session : ℕ). bodies.PolicyPcr session asked) named) (sym c.requires.asserts)
    (c.in_ok-policy_pcr.ensures.answer n) (c.in_ok-policy_pcr.ensures.stands n)
    (c.put_bare.ensures.bytes replies.PolicyPcr refl) c.put_bare.ensures.done
    (c.roll.ensures x (stays_authorized c.args.self.now c.policy_pcr.new.self x c.args.by.now c.args.out.now c.requires.ready
    (λ needs. absurd (asserting_needs_none x.header.code c.requires.asserts needs))))

pub returns-in_err-asserted : goal.returns-in_err-asserted
returns-in_err-asserted c =
    let x = c.args.areas.now in
    let old : Begin = record { device = c.args.self.now; nonce = c.args.nonce.now; out = c.args.out.now } in
    let faulty = c.in_err-asserted.ensures.faulty in
    let is : c.from_residual.result ≡ Err c.in_err-asserted.field-0.0 = search rules in
    rw is (fault_refuses old x faulty.0 c.in_err-asserted.field-0.0 (rw c.requires.asserts faulty.1) faulty.2)

pub returns-in_err-policy_pcr : goal.returns-in_err-policy_pcr
returns-in_err-policy_pcr c =
    let x = c.args.areas.now in
    let n = c.args.nonce.now in
    let old : Begin = record { device = c.args.self.now; nonce = n; out = c.args.out.now } in
    let asked = c.in_ok-asserted.asserted in
    let named = sym (c.policy_in-session.ensures ∙ ap policy_in (c.first_handle.ensures ∙ ap first c.handles.ensures)) in
    let is : c.from_residual-in_err-policy_pcr.result ≡ Err c.in_err-policy_pcr.field-0.0 = search rules in
    rw is (body_refused old c.policy_pcr.new.self x (params.PolicyPcr asked)
    (bodies.PolicyPcr c.policy_in-session.result asked) c.in_err-policy_pcr.field-0.0
    (rw c.requires.asserts c.in_ok-asserted.ensures.read) (ap (λ (session : ℕ). bodies.PolicyPcr session asked) named)
    (c.in_err-policy_pcr.ensures.answer n) c.in_err-policy_pcr.ensures.refused)
