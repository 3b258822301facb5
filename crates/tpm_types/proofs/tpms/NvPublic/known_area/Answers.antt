use Rattle.std.proofs.Common.{refl}
use Rattle.tpm_types.specs.Tpms.{nv_public_area}
use Rattle.tpm_types.proofs.tpms.NvPublic.known_area.Goals as goal

pub returns : goal.returns
unfolding nv_public_area
returns c left = (
  c.has_spelling.ensures.fits _,
  (
    c.has_spelling-2.ensures.fits _,
    (
      c.has_spelling-3.ensures.fits _,
      (c.has_spelling-4.ensures.fits _, (c.has_spelling-5.ensures.fits 0, refl)),
    ),
  ),
)
