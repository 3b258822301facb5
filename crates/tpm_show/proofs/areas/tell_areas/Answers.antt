use Rattle.tpm_show.proofs.Pieces.{pieces}
use Rattle.tpm_show.specs.Areas.{areas_told}
use Rattle.tpm_show.proofs.areas.tell_areas.Goals as goal

pub returns : goal.returns
unfolding areas_told
returns g c = simp pieces (simp (c.in_ok-tell_sessions.ensures, c.in_ok-tell_handles.ensures, pieces) at c.tell_parameters.ensures)
