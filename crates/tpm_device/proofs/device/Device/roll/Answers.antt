use Rattle.std.proofs.Common.{List, ◌∷◌, refl, sym, subst, ◌∙◌}
use Rattle.tpm_types.specs.declared.tpms.Auth.{Auth}
use Rattle.tpm_commands.specs.Handles.{needs_authorization}
use Rattle.tpm_buffer.specs.Commands.{code_for, with_auths}
use Rattle.tpm_model.specs.Steps.{Accepted}
use Rattle.tpm_model.proofs.OwnCode.{needs_it}
use Rattle.tpm_device.specs.Stands.{Stands}
use Rattle.tpm_device.specs.inner.Actions.{step_of}
use Rattle.tpm_device.proofs.Further.{its_sessions, sessions_stay, with_sessions}
use Rattle.tpm_device.proofs.device.Device.roll.Goals as goal

pub returns-in-Some : goal.returns-in-Some
returns-in-Some c = λ x is o h body reply replied none st.
    let own = rw c.in-Some.is at is in
    let d = c.args.self.now in
    let a = c.in-Some.how.first.now in
    let n = c.args.nonce.now in
    let needs = needs_it (needs_authorization (code_for body)) x.auths a own.others none own.are in
    with_sessions o h d (record d { sessions = c.roll.new.self }) body reply x.auths replied n st refl refl refl refl
    (c.roll.ensures o h (with_auths body x.auths) (record { body = reply; auths = replied }) own needs
    (its_sessions o (step_of body reply n ∷ h) d st ∙ sessions_stay o h body reply n needs))

pub returns-in_default : goal.returns-in_default
returns-in_default c = λ x own o h body reply replied none st.
    subst (λ (auths : List Auth). Stands o (Accepted (with_auths body auths) (record { body = reply; auths = replied }) c.args.nonce.now ∷ h) c.args.self.now)
    (sym (rw c.in_default.is at own)) st
