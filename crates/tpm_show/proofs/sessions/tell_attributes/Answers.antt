use Rattle.tpm_show.specs.Sessions.{attributes_told}
use Rattle.tpm_show.proofs.Pieces.{pieces}
use Rattle.tpm_show.proofs.sessions.tell_attributes.Goals as goal

pub returns : goal.returns
unfolding attributes_told
returns g c = simp pieces (simp (c.in_ok-tell_attribute_names.ensures, c.in_ok-tell-2.ensures, c.in_ok-tell.ensures, pieces) at c.tell-3.ensures)
