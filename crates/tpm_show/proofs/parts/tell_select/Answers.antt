use Rattle.tpm_show.proofs.Pieces.{pieces}
use Rattle.tpm_show.proofs.parts.tell_select.Goals as goal

pub returns : goal.returns
returns g c = simp pieces (simp (c.in_ok-tell_registers.ensures, c.in_ok-begin_structure.ensures, pieces) at c.end_structure.ensures)
