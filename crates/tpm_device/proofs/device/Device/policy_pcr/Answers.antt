use Rattle.std.proofs.Common.{refl}
use Rattle.tpm_commands.specs.declared.command.CommandBody.TheVariants as bodies
use Rattle.tpm_commands.specs.declared.command.ReplyBody.TheVariants as replies
use Rattle.tpm_device.proofs.Further.{its_registers, sessions_change}
use Rattle.tpm_device.proofs.device.Device.policy_pcr.Goals as goal

pub returns-clause-stands : goal.returns-clause-stands
returns-clause-stands c = λ n o h st.
    sessions_change o h c.args.self.now (bodies.PolicyPcr c.args.session c.args.asked.now) replies.PolicyPcr n c.policy_pcr.new.self
    st refl refl (λ nv. refl) (λ k r m is none. c.in_ok-policy_pcr.ensures.asserted o h k r m is none (its_registers o h c.args.self.now st))
