use Rattle.std.proofs.Common.{◌∙◌, refl, subst, sym}
use Rattle.tpm_event_data.specs.SignatureLists.{as_list}
use Rattle.tpm_c.specs.SignatureLists.{list_view, IsListTold}
use Rattle.tpm_c.proofs.SignatureLists.{list_views}
use Rattle.tpm_c.proofs.signature_list.tpm_log_signature_list.Goals as goal

pub returns-in-Some-Ok : goal.returns-in-Some-Ok
returns-in-Some-Ok c =
    let bytes = c.args.bytes.now in
    let l = as_list c.in-Some-Ok.list in
    let steps = rw c.in-Some-Ok.field-0-is at c.in-Some-Ok.ensures.steps in
    let is = sym steps ∙ c.signature_lists.ensures in
    rw c.list_view.ensures
    (subst (λ o. IsListTold o bytes (record { answer = 92; old = c.args.view.now; new = list_view l })) is
    (refl, list_views bytes l _ is, refl))
