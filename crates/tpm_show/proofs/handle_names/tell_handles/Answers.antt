use Rattle.tpm_show.specs.HandleNames.{handles_told}
use Rattle.tpm_show.proofs.Pieces.{pieces}
use Rattle.tpm_show.proofs.handle_names.tell_handles.Goals as goal

pub returns : goal.returns
unfolding handles_told
returns g c =
    simp pieces (simp (c.in_ok-tell_names.ensures, c.in_ok-tell_all.ensures, c.in_ok-tell_each.ensures, c.in_ok-tell.ensures, pieces) at c.tell-2.ensures)
