use Rattle.std.proofs.Common.{refl, subst}
use Rattle.tpm_event_data.specs.ImageLoads.{as_image}
use Rattle.tpm_c.specs.Images.{image_view, IsImageTold}
use Rattle.tpm_c.proofs.Imaging.{lies}
use Rattle.tpm_c.proofs.image.tpm_log_image.Goals as goal

pub returns-in-Some-Ok : goal.returns-in-Some-Ok
returns-in-Some-Ok c =
    let bytes = c.args.bytes.now in
    let i = as_image c.in-Some-Ok.image in
    let is = rw c.in-Some-Ok.field-0-is at c.in-Some-Ok.ensures in
    rw c.image_view.ensures
    (subst (λ o. IsImageTold o bytes (record { answer = 43; old = c.args.view.now; new = image_view i })) is
    (refl, lies c.args.kind bytes i is, refl))
