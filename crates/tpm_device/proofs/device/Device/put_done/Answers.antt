use Rattle.std.proofs.Common.{ℕ, List, sym, ap, ◌∙◌}
use Rattle.tpm_types.specs.declared.tpms.AuthReply.{AuthReply}
use Rattle.tpm_model.specs.Answers.{reply_params}
use Rattle.tpm_model.specs.Authorization.{reply_auths}
use Rattle.tpm_model.specs.Premises.{code_in}
use Rattle.tpm_device.specs.inner.Answers.{reply_bytes}
use Rattle.tpm_device.proofs.Checked.{none_replied, password_replies}
use Rattle.tpm_device.proofs.Passing.{reply_is_done}
use Rattle.tpm_device.proofs.device.Device.put_done.Goals as goal

pub returns-in-None-clause-bytes : goal.returns-in-None-clause-bytes
returns-in-None-clause-bytes c = λ p e alike gives.
    c.put_reply.ensures ∙ ap (λ (auths : List AuthReply). reply_bytes (record { body = c.args.body.now; auths = auths }))
    (sym (none_replied p c.args.areas.now e c.args.areas.now.header.code (reply_params c.args.body.now) c.args.nonce.now
    (rw c.in-None.is at c.requires.own) gives))

pub returns-in-None-clause-done : goal.returns-in-None-clause-done
returns-in-None-clause-done c = ap code_in c.put_reply.ensures ∙ reply_is_done c.args.body.now _

pub returns-in-None-slot-clause-bytes : goal.returns-in-None-slot-clause-bytes
returns-in-None-slot-clause-bytes c = λ p e alike gives.
    let own = rw c.in-Some.is at c.requires.own in
    c.put_passed.ensures ∙ ap (λ (auths : List AuthReply). reply_bytes (record { body = c.args.body.now; auths = auths }))
    (sym (password_replies p c.args.areas.now c.in-Some.how.first.now own.others e c.args.areas.now.header.code (reply_params c.args.body.now)
    c.args.nonce.now (rw c.in-None-slot.is at own.by) own.are gives))

pub returns-in-None-slot-clause-done : goal.returns-in-None-slot-clause-done
returns-in-None-slot-clause-done c = ap code_in c.put_passed.ensures ∙ reply_is_done c.args.body.now _

pub returns-in-Some-slot-clause-bytes : goal.returns-in-Some-slot-clause-bytes
returns-in-Some-slot-clause-bytes c = λ p e alike gives.
    let own = rw c.in-Some.is at c.requires.own in
    c.put_reply_with.ensures ∙ ap (λ (auths : List AuthReply). reply_bytes (record { body = c.args.body.now; auths = auths }))
    (sym (ap (λ (params : List ℕ). reply_auths e c.args.areas.now.header.code params c.args.nonce.now)
    (sym (c.as_slice.ensures.value ∙ c.put_reply_params.ensures))
    ∙ c.reply_session-session.ensures p e (alike c.in-Some.how.first.now own.others own.are) gives))

pub returns-in-Some-slot-clause-done : goal.returns-in-Some-slot-clause-done
returns-in-Some-slot-clause-done c = ap code_in c.put_reply_with.ensures ∙ reply_is_done c.args.body.now _
