use Rattle.std.proofs.Common.{ℕ, List, [], sym, ap, ◌∙◌}
use Rattle.tpm_types.specs.declared.tpms.AuthReply.{AuthReply}
use Rattle.tpm_model.specs.Answers.{reply_params}
use Rattle.tpm_model.specs.Authorization.{reply_auths}
use Rattle.tpm_model.specs.Premises.{code_in}
use Rattle.tpm_device.specs.inner.Answers.{any_bare, bare_bytes, reply_bytes}
use Rattle.tpm_device.proofs.WithoutParameters.{same_bytes, bare_params}
use Rattle.tpm_device.proofs.Checked.{password_replies, none_replied}
use Rattle.tpm_device.proofs.Passing.{reply_is_done}
use Rattle.tpm_device.proofs.device.Device.put_bare.Goals as goal

pub returns-in-None-clause-bytes : goal.returns-in-None-clause-bytes
returns-in-None-clause-bytes c = λ body bare p e alike gives.
    c.put_bare_alone.ensures ∙ same_bytes body [] bare ∙ ap (λ (auths : List AuthReply). reply_bytes (record { body = body; auths = auths }))
    (sym (none_replied p c.args.areas.now e c.args.areas.now.header.code (reply_params body) c.args.nonce.now
    (rw c.in-None.is at c.requires.own) gives))

pub returns-in-None-clause-done : goal.returns-in-None-clause-done
returns-in-None-clause-done c = ap code_in c.put_bare_alone.ensures ∙ reply_is_done any_bare _

pub returns-in-None-slot-clause-done : goal.returns-in-None-slot-clause-done
returns-in-None-slot-clause-done c = ap code_in c.put_bare_passed.ensures ∙ reply_is_done any_bare _

pub returns-in-Some-slot-clause-done : goal.returns-in-Some-slot-clause-done
returns-in-Some-slot-clause-done c = ap code_in c.put_bare_with.ensures ∙ reply_is_done any_bare _

pub returns-in-None-slot-clause-bytes : goal.returns-in-None-slot-clause-bytes
returns-in-None-slot-clause-bytes c = λ body bare p e alike gives.
    let own = rw c.in-Some.is at c.requires.own in
    c.put_bare_passed.ensures ∙ same_bytes body _ bare ∙ ap (λ (auths : List AuthReply). reply_bytes (record { body = body; auths = auths }))
    (sym (password_replies p c.args.areas.now c.in-Some.how.first.now own.others e c.args.areas.now.header.code (reply_params body) c.args.nonce.now
    (rw c.in-None-slot.is at own.by) own.are gives))

pub returns-in-Some-slot-clause-bytes : goal.returns-in-Some-slot-clause-bytes
returns-in-Some-slot-clause-bytes c = λ body bare p e alike gives.
    let own = rw c.in-Some.is at c.requires.own in
    c.put_bare_with.ensures
    ∙ ap bare_bytes (sym (c.reply_session-session.ensures p e (alike c.in-Some.how.first.now own.others own.are) gives))
    ∙ same_bytes body _ bare
    ∙ ap (λ (params : List ℕ). reply_bytes (record { body = body; auths = reply_auths e c.args.areas.now.header.code params c.args.nonce.now }))
    (bare_params body bare)
