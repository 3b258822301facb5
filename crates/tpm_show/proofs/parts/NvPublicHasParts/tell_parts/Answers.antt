use Rattle.tpm_types.specs.Tpms.{nv_public_area}
use Rattle.tpm_show.proofs.Pieces.{pieces}
use Rattle.tpm_show.proofs.parts.NvPublicHasParts.tell_parts.Goals as goal

pub returns : goal.returns
unfolding nv_public_area
returns g c =
    simp pieces (simp (c.in_ok-tell-3.ensures, c.in_ok-tell_structure.ensures, c.in_ok-tell-2.ensures, c.in_ok-tell.ensures, pieces) at c.tell-4.ensures)
