use Rattle.std.proofs.Common.{rules, ◌≡◌, Err}
use Rattle.tpm_device.specs.inner.Performing.{Begin}
use Rattle.tpm_device.proofs.Acting.{acted_done, acted_refused}
use Rattle.tpm_device.proofs.Passing.{stays_authorized}
use Rattle.tpm_device.proofs.device.Device.performed_by_action.Goals as goal

pub put_done-requires-clause-own : goal.put_done-requires-clause-own
put_done-requires-clause-own c =
    stays_authorized c.args.self.now c.acted.new.self c.args.areas.now c.args.by.now c.args.out.now c.requires c.in_ok-acted.ensures.5

pub returns : goal.returns
returns c =
    let x = c.args.areas.now in
    let old : Begin = record { device = c.args.self.now; nonce = c.args.nonce.now; out = c.args.out.now } in
    acted_done old c.acted.new.self c.roll.new.self x c.args.by.now c.acted.new.body c.put_done.new.out c.requires c.in_ok-acted.ensures
    c.put_done.ensures.bytes c.put_done.ensures.done
    (c.roll.ensures x (stays_authorized c.args.self.now c.acted.new.self x c.args.by.now c.args.out.now c.requires c.in_ok-acted.ensures.5))

pub returns-in_err-acted : goal.returns-in_err-acted
returns-in_err-acted c =
    let old : Begin = record { device = c.args.self.now; nonce = c.args.nonce.now; out = c.args.out.now } in
    let is : c.from_residual.result ≡ Err c.in_err-acted.field-0.0 = search rules in
    rw is (acted_refused old c.acted.new.self c.args.areas.now c.acted.new.body c.in_err-acted.field-0.0 c.in_err-acted.ensures)
