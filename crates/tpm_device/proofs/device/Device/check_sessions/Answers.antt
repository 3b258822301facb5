use Rattle.std.proofs.Common.{◌≡◌, List, ℕ, false, ap, ◌∙◌}
use Rattle.std.specs.Prelude.{◌==◌}
use Rattle.arrayvec.specs.ArrayVec.{ArrayVec}
use Rattle.tpm_types.specs.Handles.{rs_pw}
use Rattle.tpm_commands.specs.Handles.{first}
use Rattle.tpm_model.specs.Entities.{entity_of, names_of}
use Rattle.tpm_session.specs.Entities.{entity_in, authorized}
use Rattle.tpm_device.specs.Stands.{holds}
use Rattle.tpm_device.proofs.Checked.{checked_by}
use Rattle.tpm_device.proofs.device.Device.check_sessions.Goals.{in-None, in-Some-slot}
use Rattle.tpm_device.proofs.device.Device.check_sessions.Goals as goal

pub returns : goal.returns
returns c =
    let p = holds c.args.self.now in
    let x = c.args.areas.now in
    let own = rw c.in-Some.is at c.requires.own in
    let how = c.in-Some.how in
    let entity = c.entity.ensures ∙ ap (entity_of p) (c.first_handle.ensures ∙ ap first c.handles-2.ensures) in
    let names : (how.first.now.session == rs_pw) ≡ false → c.as_slice.result.now ≡ names_of p x.handles = elim c.match-how.branch [
      | in-None w ↦ λ none. (let is = rw w.in-None.is at own.by in absurd (let z : ⊥ = cc in z))
      | in-Some-slot w ↦ λ none. c.as_slice.ensures.value ∙ ap (λ (v : ArrayVec (List ℕ)). v.items) w.names-is ∙ w.names-names.ensures
          ∙ ap (names_of p) w.handles.ensures
    ] in
    c.authorize_by.ensures x.auths own ∙ ap (authorized p.sessions _) own.are
    ∙ checked_by p x how.first.now own.others (entity_in c.entity.result) c.code.result c.as_slice.result.now c.params.result.now
    c.update_counter.result own.are entity c.code.ensures c.params.ensures.value c.update_counter.ensures names
