use Rattle.std.proofs.Common.{[], refl, ap, ◌∙◌}
use Rattle.tpm_commands.specs.declared.command.CommandBody.TheVariants as bodies
use Rattle.tpm_commands.specs.declared.command.ReplyBody.TheVariants as replies
use Rattle.tpm_buffer.specs.Commands.{with_auths}
use Rattle.tpm_hmac.specs.Sessions.{trim}
use Rattle.tpm_device.specs.inner.Actions.{Steps, step_of}
use Rattle.tpm_device.proofs.Acting.{implied}
use Rattle.tpm_device.proofs.Further.{one_more, its_owner, its_registers, its_sessions}
use Rattle.tpm_device.proofs.device.Device.started.Goals as goal

pub returns-clause-stands : goal.returns-clause-stands
returns-clause-stands c =
    let d = c.args.self.now in
    let body = bodies.StartAuthSession c.args.start.now in
    let new = record d { sessions = c.start.new.self } in
    let n = c.args.nonce.now in
    implied _ (λ reply. Steps d new (step_of body (replies.StartAuthSession reply) n)) c.start.result
    (λ reply starts o h st. one_more o h d new body (replies.StartAuthSession reply) n st refl refl (its_registers o h d st)
    (starts o h (with_auths body []) (record { body = replies.StartAuthSession reply; auths = [] })
    (λ bound. ap trim (c.as_slice.ensures.value ∙ its_owner o h d st)) refl refl refl (its_sessions o h d st)) refl)
    c.start.ensures.started
