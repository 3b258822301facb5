use Rattle.tpm_types.specs.Tpms.{selection}
use Rattle.tpm_show.proofs.Pieces.{pieces}
use Rattle.tpm_show.proofs.parts.SelectionHasParts.tell_parts.Goals as goal

pub returns : goal.returns
unfolding selection
returns g c = simp pieces (simp (c.in_ok-tell-2.ensures, c.in_ok-tell.ensures, pieces) at c.tell_select.ensures)
