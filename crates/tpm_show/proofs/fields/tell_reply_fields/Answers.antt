use Rattle.tpm_show.proofs.Pieces.{pieces}
use Rattle.tpm_commands.specs.Commands.Pcr.{pcr_event_reply}
use Rattle.tpm_commands.specs.Commands.Nv.{nv_read_reply}
use Rattle.tpm_commands.specs.Commands.Session.{start_auth_session_reply}
use Rattle.tpm_commands.specs.Commands.Policy.{policy_get_digest_reply}
use Rattle.tpm_show.proofs.fields.tell_reply_fields.Goals as goal

pub returns-in-PcrEvent : goal.returns-in-PcrEvent
unfolding pcr_event_reply
returns-in-PcrEvent g c = rw c.in-PcrEvent.is (simp pieces (simp pieces at c.tell_structure.ensures))

pub returns-in-PolicyGetDigest : goal.returns-in-PolicyGetDigest
unfolding policy_get_digest_reply
returns-in-PolicyGetDigest g c = rw c.in-PolicyGetDigest.is (simp pieces c.tell-in-PolicyGetDigest.ensures)

pub returns-in-NvRead : goal.returns-in-NvRead
unfolding nv_read_reply
returns-in-NvRead g c = rw c.in-NvRead.is (simp pieces c.tell.ensures)

pub returns-in-StartAuthSession : goal.returns-in-StartAuthSession
unfolding start_auth_session_reply
returns-in-StartAuthSession g c = rw c.in-StartAuthSession.is (simp pieces c.tell-in-StartAuthSession.ensures)
