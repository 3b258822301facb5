use Rattle.tpm_show.proofs.Pieces.{pieces}
use Rattle.tpm_commands.specs.Commands.Nv.{nv_read_public_reply}
use Rattle.tpm_show.proofs.fields.tell_public_fields.Goals as goal

pub returns : goal.returns
unfolding nv_read_public_reply
returns g c = simp pieces (simp (c.in_ok-tell_structure.ensures, pieces) at c.tell.ensures)
