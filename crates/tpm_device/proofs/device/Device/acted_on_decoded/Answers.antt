use Rattle.std.proofs.Common.{ℕ, Err, refl, subst}
use Rattle.tpm_device.specs.inner.Actions.{Acting, IsActed}
use Rattle.tpm_device.proofs.Acting.{acts_with, acts_never}
use Rattle.tpm_device.proofs.device.Device.acted_on_decoded.Goals as goal

pub returns-in-Ok : goal.returns-in-Ok
returns-in-Ok c =
    acts_with c.args.areas.now c.read_params.new.params
    (record { old = c.args.self.now; nonce = c.args.nonce.now; reply = c.act.new.body; new = c.act.new.self }) c.act.result
    c.in-Ok.ensures.read c.in-Ok.ensures.code
    (rw c.handles.ensures at c.act.ensures.answer) (rw c.handles.ensures at c.act.ensures.stands) c.act.ensures.sessions c.act.ensures.refused

pub returns-in-Err : goal.returns-in-Err
returns-in-Err c =
    let x = c.args.areas.now in
    let a : Acting = record { old = c.args.self.now; nonce = c.args.nonce.now; reply = c.args.body.now; new = c.args.self.now } in
    let faulty = c.in-Err.ensures.faulty in
    subst (λ (code : ℕ). IsActed x a (Err code)) faulty.2 (acts_never x a faulty.0 faulty.1 refl)
