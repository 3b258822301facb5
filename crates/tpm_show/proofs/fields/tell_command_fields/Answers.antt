use Rattle.tpm_show.proofs.Pieces.{pieces}
use Rattle.tpm_commands.specs.Commands.Startup.{startup}
use Rattle.tpm_commands.specs.Commands.Nv.{nv_define_space, nv_read}
use Rattle.tpm_commands.specs.Commands.Pcr.{pcr_event, pcr_read, pcr_extend}
use Rattle.tpm_commands.specs.Commands.Context.{flush_context}
use Rattle.tpm_commands.specs.Commands.Policy.{policy_or, policy_pcr}
use Rattle.tpm_show.proofs.fields.tell_command_fields.Goals as goal

pub returns-in_ok-tell-in-NvDefineSpace : goal.returns-in_ok-tell-in-NvDefineSpace
unfolding nv_define_space
returns-in_ok-tell-in-NvDefineSpace g c =
    rw c.in-NvDefineSpace.is (simp pieces (simp (c.in_ok-tell-in-NvDefineSpace.ensures, pieces) at c.tell_structure.ensures))

pub returns-in-Startup : goal.returns-in-Startup
unfolding startup
returns-in-Startup g c = rw c.in-Startup.is (simp pieces c.tell-in-Startup.ensures)

pub returns-in_ok-tell-in-NvRead : goal.returns-in_ok-tell-in-NvRead
unfolding nv_read
returns-in_ok-tell-in-NvRead g c = rw c.in-NvRead.is (simp pieces (simp (c.in_ok-tell-in-NvRead.ensures, pieces) at c.tell-in-NvRead-2.ensures))

pub returns-in-FlushContext : goal.returns-in-FlushContext
unfolding flush_context
returns-in-FlushContext g c = rw c.in-FlushContext.is (simp pieces c.tell-in-FlushContext.ensures)

pub returns-in-PolicyOr : goal.returns-in-PolicyOr
unfolding policy_or
returns-in-PolicyOr g c = rw c.in-PolicyOr.is (simp pieces (simp pieces at c.tell_structure-in-PolicyOr.ensures))

pub returns-in-PcrRead : goal.returns-in-PcrRead
unfolding pcr_read
returns-in-PcrRead g c = rw c.in-PcrRead.is (simp pieces (simp pieces at c.tell_structure-in-PcrRead.ensures))

pub returns-in_ok-tell-in-PolicyPcr : goal.returns-in_ok-tell-in-PolicyPcr
unfolding policy_pcr
returns-in_ok-tell-in-PolicyPcr g c =
    rw c.in-PolicyPcr.is (simp pieces (simp (c.in_ok-tell-in-PolicyPcr.ensures, pieces) at c.tell_structure-in-PolicyPcr.ensures))

pub returns-in-PcrExtend : goal.returns-in-PcrExtend
unfolding pcr_extend
returns-in-PcrExtend g c = rw c.in-PcrExtend.is (simp pieces (simp pieces at c.tell_structure-in-PcrExtend.ensures))

pub returns-in-PcrEvent : goal.returns-in-PcrEvent
unfolding pcr_event
returns-in-PcrEvent g c = rw c.in-PcrEvent.is (simp pieces c.tell_event.ensures)
