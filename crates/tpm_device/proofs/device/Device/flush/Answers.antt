use Rattle.std.proofs.Common.{refl}
use Rattle.tpm_commands.specs.declared.command.CommandBody.TheVariants as bodies
use Rattle.tpm_commands.specs.declared.command.ReplyBody.TheVariants as replies
use Rattle.tpm_device.proofs.Further.{sessions_change}
use Rattle.tpm_device.proofs.device.Device.flush.Goals as goal

pub returns-clause-stands : goal.returns-clause-stands
returns-clause-stands c = λ n o h st.
    sessions_change o h c.args.self.now (bodies.FlushContext c.args.session) replies.FlushContext n c.flush.new.self st refl refl (λ nv. refl)
    (c.in_ok-flush.ensures.flushed o h)
