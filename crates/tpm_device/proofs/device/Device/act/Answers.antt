use Rattle.std.proofs.Common.{◌≡◌, ◌∙◌, ℕ, refl, ap, subst}
use Rattle.std.specs.Prelude.{OnOk}
use Rattle.tpm_types.specs.declared.handle_sets.NvAuthHandle.{NvAuthHandle}
use Rattle.tpm_types.specs.declared.handle_sets.BindHandle.{BindHandle}
use Rattle.tpm_commands.specs.declared.command.CommandBody.{CommandBody}
use Rattle.tpm_commands.specs.Handles.{first}
use Rattle.tpm_commands.specs.declared.command.CommandBody.TheVariants as bodies
use Rattle.tpm_commands.specs.declared.command.Params.TheVariants as params
use Rattle.tpm_commands.specs.declared.command.ReplyBody.TheVariants as replies
use Rattle.tpm_buffer.specs.Commands.{body_from, bind_in, index_in, nv_auth_in, policy_in}
use Rattle.tpm_model.specs.Actions.{action}
use Rattle.tpm_device.specs.Stands.{holds}
use Rattle.tpm_device.specs.inner.Actions.{acted, Steps, step_of}
use Rattle.tpm_device.proofs.Further.{always, unchanged}
use Rattle.tpm_device.proofs.device.Device.act.Goals as goal

pub returns-in-Startup-clause-answer : goal.returns-in-Startup-clause-answer
returns-in-Startup-clause-answer c = rw c.in-Startup.is (c.start.ensures.answer c.args.nonce.now)

pub returns-in-Startup-clause-stands : goal.returns-in-Startup-clause-stands
returns-in-Startup-clause-stands c = rw c.in-Startup.is (c.start.ensures.stands c.args.nonce.now)

pub returns-in-PcrExtend-clause-answer : goal.returns-in-PcrExtend-clause-answer
returns-in-PcrExtend-clause-answer c =
    rw c.in-PcrExtend.is (rw (c.pcr_or_null_in.ensures, c.first_handle-first.ensures) at (c.extend.ensures.answer c.args.nonce.now))

pub returns-in-PcrExtend-clause-stands : goal.returns-in-PcrExtend-clause-stands
returns-in-PcrExtend-clause-stands c =
    rw c.in-PcrExtend.is (rw (c.pcr_or_null_in.ensures, c.first_handle-first.ensures) at (c.extend.ensures.stands c.args.nonce.now))

pub returns-in-PcrEvent-clause-answer : goal.returns-in-PcrEvent-clause-answer
returns-in-PcrEvent-clause-answer c =
    rw c.in-PcrEvent.is (rw (c.pcr_or_null_in-in-PcrEvent.ensures, c.first_handle-first.ensures) at (c.event.ensures.answer c.args.nonce.now))

pub returns-in-PcrEvent-clause-stands : goal.returns-in-PcrEvent-clause-stands
returns-in-PcrEvent-clause-stands c =
    rw c.in-PcrEvent.is (rw (c.pcr_or_null_in-in-PcrEvent.ensures, c.first_handle-first.ensures) at (c.event.ensures.stands c.args.nonce.now))

pub returns-in-PcrReset-clause-answer : goal.returns-in-PcrReset-clause-answer
returns-in-PcrReset-clause-answer c =
    rw c.in-PcrReset.is (rw (c.register_in.ensures, c.first_handle-first.ensures) at (c.reset.ensures.answer c.args.nonce.now))

pub returns-in-PcrReset-clause-stands : goal.returns-in-PcrReset-clause-stands
returns-in-PcrReset-clause-stands c =
    rw c.in-PcrReset.is (rw (c.register_in.ensures, c.first_handle-first.ensures) at (c.reset.ensures.stands c.args.nonce.now))

pub returns-in-PcrRead-clause-answer : goal.returns-in-PcrRead-clause-answer
returns-in-PcrRead-clause-answer c = rw c.in-PcrRead.is (c.read_registers.ensures c.args.nonce.now)

pub returns-in-PcrRead-clause-stands : goal.returns-in-PcrRead-clause-stands
returns-in-PcrRead-clause-stands c =
    rw c.in-PcrRead.is (unchanged c.args.self.now (body_from c.args.handles.now (params.PcrRead c.in-PcrRead.selections)) c.read_registers.new.body
    c.args.nonce.now refl refl (λ o h. refl) (λ nv. refl))

pub returns-in-StartAuthSession-clause-answer : goal.returns-in-StartAuthSession-clause-answer
returns-in-StartAuthSession-clause-answer c =
    let is : bodies.StartAuthSession (record { bind = c.bind_in.result; params = c.in-StartAuthSession.params })
    ≡ body_from c.args.handles.now c.args.params.now =
    rw c.in-StartAuthSession.is
    (ap (λ (b : BindHandle). bodies.StartAuthSession (record { bind = b; params = c.in-StartAuthSession.params }))
    (c.bind_in.ensures ∙ ap bind_in c.second_handle-second.ensures)) in
    subst (λ (b : CommandBody). acted c.start_session.new.body c.start_session.result ≡ action (holds c.args.self.now) b c.args.nonce.now) is
    c.start_session.ensures.answer

pub returns-in-StartAuthSession-clause-stands : goal.returns-in-StartAuthSession-clause-stands
returns-in-StartAuthSession-clause-stands c =
    rw c.in-StartAuthSession.is (rw (c.bind_in.ensures, c.second_handle-second.ensures) at (c.start_session.ensures.stands))

pub returns-in-FlushContext-clause-answer : goal.returns-in-FlushContext-clause-answer
returns-in-FlushContext-clause-answer c = rw c.in-FlushContext.is (c.flush.ensures.answer c.args.nonce.now)

pub returns-in-FlushContext-clause-stands : goal.returns-in-FlushContext-clause-stands
returns-in-FlushContext-clause-stands c = rw c.in-FlushContext.is (c.flush.ensures.stands c.args.nonce.now)

pub returns-in-PolicyPcr-clause-answer : goal.returns-in-PolicyPcr-clause-answer
returns-in-PolicyPcr-clause-answer c =
    let is : bodies.PolicyPcr c.policy_in.result c.in-PolicyPcr.asked ≡ body_from c.args.handles.now c.args.params.now =
    rw c.in-PolicyPcr.is (ap (λ (s : ℕ). bodies.PolicyPcr s c.in-PolicyPcr.asked)
    (c.policy_in.ensures ∙ ap policy_in c.first_handle-first.ensures)) in
    subst (λ (b : CommandBody). acted replies.PolicyPcr c.policy_pcr.result ≡ action (holds c.args.self.now) b c.args.nonce.now) is
    (c.policy_pcr.ensures.answer c.args.nonce.now)

pub returns-in-PolicyPcr-clause-stands : goal.returns-in-PolicyPcr-clause-stands
returns-in-PolicyPcr-clause-stands c =
    rw c.in-PolicyPcr.is (rw (c.policy_in.ensures, c.first_handle-first.ensures) at (c.policy_pcr.ensures.stands c.args.nonce.now))

pub returns-in-PolicyOr-clause-answer : goal.returns-in-PolicyOr-clause-answer
returns-in-PolicyOr-clause-answer c =
    rw c.in-PolicyOr.is (rw (c.policy_in-in-PolicyOr.ensures, c.first_handle-first.ensures) at (c.policy_or.ensures.answer c.args.nonce.now))

pub returns-in-PolicyOr-clause-stands : goal.returns-in-PolicyOr-clause-stands
returns-in-PolicyOr-clause-stands c =
    rw c.in-PolicyOr.is (rw (c.policy_in-in-PolicyOr.ensures, c.first_handle-first.ensures) at (c.policy_or.ensures.stands c.args.nonce.now))

pub returns-in-PolicyCommandCode-clause-answer : goal.returns-in-PolicyCommandCode-clause-answer
returns-in-PolicyCommandCode-clause-answer c =
    rw c.in-PolicyCommandCode.is
    (rw (c.policy_in-in-PolicyCommandCode.ensures, c.first_handle-first.ensures) at (c.policy_command_code.ensures.answer c.args.nonce.now))

pub returns-in-PolicyCommandCode-clause-stands : goal.returns-in-PolicyCommandCode-clause-stands
returns-in-PolicyCommandCode-clause-stands c =
    rw c.in-PolicyCommandCode.is
    (rw (c.policy_in-in-PolicyCommandCode.ensures, c.first_handle-first.ensures) at (c.policy_command_code.ensures.stands c.args.nonce.now))

pub returns-in-PolicyAuthValue-clause-answer : goal.returns-in-PolicyAuthValue-clause-answer
returns-in-PolicyAuthValue-clause-answer c =
    rw c.in-PolicyAuthValue.is
    (rw (c.policy_in-in-PolicyAuthValue.ensures, c.first_handle-first.ensures) at (c.policy_auth_value.ensures.answer c.args.nonce.now))

pub returns-in-PolicyAuthValue-clause-stands : goal.returns-in-PolicyAuthValue-clause-stands
returns-in-PolicyAuthValue-clause-stands c =
    rw c.in-PolicyAuthValue.is
    (rw (c.policy_in-in-PolicyAuthValue.ensures, c.first_handle-first.ensures) at (c.policy_auth_value.ensures.stands c.args.nonce.now))

pub returns-in-PolicyRestart-clause-answer : goal.returns-in-PolicyRestart-clause-answer
returns-in-PolicyRestart-clause-answer c =
    rw c.in-PolicyRestart.is (rw (c.policy_in-in-PolicyRestart.ensures, c.first_handle-first.ensures) at (c.policy_restart.ensures.answer c.args.nonce.now))

pub returns-in-PolicyRestart-clause-stands : goal.returns-in-PolicyRestart-clause-stands
returns-in-PolicyRestart-clause-stands c =
    rw c.in-PolicyRestart.is (rw (c.policy_in-in-PolicyRestart.ensures, c.first_handle-first.ensures) at (c.policy_restart.ensures.stands c.args.nonce.now))

pub returns-in-PolicyGetDigest-clause-answer : goal.returns-in-PolicyGetDigest-clause-answer
returns-in-PolicyGetDigest-clause-answer c =
    rw c.in-PolicyGetDigest.is (rw (c.policy_in-in-PolicyGetDigest.ensures, c.first_handle-first.ensures) at (c.policy_digest.ensures c.args.nonce.now))

pub returns-in-PolicyGetDigest-clause-stands : goal.returns-in-PolicyGetDigest-clause-stands
returns-in-PolicyGetDigest-clause-stands c =
    rw c.in-PolicyGetDigest.is
    (always c.policy_digest.result
    (unchanged c.args.self.now (body_from c.args.handles.now (params.PolicyGetDigest)) c.policy_digest.new.body c.args.nonce.now refl refl
    (λ o h. refl) (λ nv. refl)))

pub returns-in-NvDefineSpace-clause-answer : goal.returns-in-NvDefineSpace-clause-answer
returns-in-NvDefineSpace-clause-answer c = rw c.in-NvDefineSpace.is (c.define.ensures.answer c.args.nonce.now)

pub returns-in-NvDefineSpace-clause-stands : goal.returns-in-NvDefineSpace-clause-stands
returns-in-NvDefineSpace-clause-stands c = rw c.in-NvDefineSpace.is (c.define.ensures.stands c.args.nonce.now)

pub returns-in-NvUndefineSpace-clause-answer : goal.returns-in-NvUndefineSpace-clause-answer
returns-in-NvUndefineSpace-clause-answer c =
    rw c.in-NvUndefineSpace.is (rw (c.index_in.ensures, c.second_handle-second.ensures) at (c.undefine.ensures.answer c.args.nonce.now))

pub returns-in-NvUndefineSpace-clause-stands : goal.returns-in-NvUndefineSpace-clause-stands
returns-in-NvUndefineSpace-clause-stands c =
    rw c.in-NvUndefineSpace.is (rw (c.index_in.ensures, c.second_handle-second.ensures) at (c.undefine.ensures.stands c.args.nonce.now))

pub returns-in-NvIncrement-clause-answer : goal.returns-in-NvIncrement-clause-answer
returns-in-NvIncrement-clause-answer c =
    rw c.in-NvIncrement.is
    (rw (c.nv_auth_in.ensures, c.first_handle-first.ensures, c.index_in-in-NvIncrement.ensures, c.second_handle-second.ensures)
    at (c.increment.ensures.answer c.args.nonce.now))

pub returns-in-NvIncrement-clause-stands : goal.returns-in-NvIncrement-clause-stands
returns-in-NvIncrement-clause-stands c =
    let is : bodies.NvIncrement c.nv_auth_in.result c.index_in-in-NvIncrement.result ≡ body_from c.args.handles.now c.args.params.now =
    rw c.in-NvIncrement.is
    (ap (λ (a : NvAuthHandle). bodies.NvIncrement a c.index_in-in-NvIncrement.result) (c.nv_auth_in.ensures ∙ ap nv_auth_in c.first_handle-first.ensures)
    ∙ ap (λ (i : ℕ). bodies.NvIncrement (nv_auth_in (first c.args.handles.now)) i)
    (c.index_in-in-NvIncrement.ensures ∙ ap index_in c.second_handle-second.ensures)) in
    subst (λ (b : CommandBody). OnOk c.increment.result (Steps c.args.self.now c.increment.new.self (step_of b c.increment.new.body c.args.nonce.now))) is
    (c.increment.ensures.stands c.args.nonce.now)

pub returns-in-NvRead-clause-answer : goal.returns-in-NvRead-clause-answer
returns-in-NvRead-clause-answer c =
    rw c.in-NvRead.is
    (rw (c.nv_auth_in-in-NvRead.ensures, c.first_handle-first.ensures, c.index_in-in-NvRead.ensures, c.second_handle-second.ensures)
    at (c.read_counter.ensures c.args.nonce.now))

pub returns-in-NvRead-clause-stands : goal.returns-in-NvRead-clause-stands
returns-in-NvRead-clause-stands c =
    rw c.in-NvRead.is (always c.read_counter.result
    (unchanged c.args.self.now (body_from c.args.handles.now (params.NvRead c.in-NvRead.asked)) c.read_counter.new.body c.args.nonce.now refl
    refl (λ o h. refl) (λ nv. refl)))

pub returns-in-NvReadPublic-clause-answer : goal.returns-in-NvReadPublic-clause-answer
returns-in-NvReadPublic-clause-answer c =
    rw c.in-NvReadPublic.is (rw (c.index_in-in-NvReadPublic.ensures, c.first_handle-first.ensures) at (c.read_public.ensures c.args.nonce.now))

pub returns-in-NvReadPublic-clause-stands : goal.returns-in-NvReadPublic-clause-stands
returns-in-NvReadPublic-clause-stands c =
    rw c.in-NvReadPublic.is
    (always c.read_public.result
    (unchanged c.args.self.now (body_from c.args.handles.now (params.NvReadPublic)) c.read_public.new.body c.args.nonce.now refl refl
    (λ o h. refl) (λ nv. refl)))
