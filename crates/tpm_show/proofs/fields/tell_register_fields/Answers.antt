use Rattle.tpm_show.proofs.Pieces.{pieces}
use Rattle.tpm_commands.specs.Commands.Pcr.{pcr_read_reply}
use Rattle.tpm_show.proofs.fields.tell_register_fields.Goals as goal

pub returns : goal.returns
unfolding pcr_read_reply
returns g c = simp pieces (simp (c.in_ok-tell_structure.ensures, c.in_ok-tell.ensures, pieces) at c.tell_structure-2.ensures)
