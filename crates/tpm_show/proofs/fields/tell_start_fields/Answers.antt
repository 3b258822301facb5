use Rattle.tpm_show.proofs.Pieces.{pieces}
use Rattle.tpm_commands.specs.Commands.Session.{start_auth_session}
use Rattle.tpm_show.proofs.fields.tell_start_fields.Goals as goal

pub returns : goal.returns
unfolding start_auth_session
returns g c =
    simp pieces (simp (c.in_ok-tell_structure.ensures, c.in_ok-tell-3.ensures, c.in_ok-tell-2.ensures, c.in_ok-tell.ensures, pieces)
    at c.tell-4.ensures)
