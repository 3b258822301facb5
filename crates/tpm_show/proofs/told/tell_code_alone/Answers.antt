use Rattle.tpm_show.specs.Show.{code_alone_told}
use Rattle.tpm_show.proofs.Pieces.{pieces}
use Rattle.tpm_show.proofs.told.tell_code_alone.Goals as goal

pub returns : goal.returns
unfolding code_alone_told
returns g c = simp pieces (simp (c.in_ok-tell_code_in_line.ensures, c.in_ok-tell_all.ensures, pieces) at c.tell.ensures)
