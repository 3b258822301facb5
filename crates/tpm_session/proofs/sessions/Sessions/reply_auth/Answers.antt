use Rattle.std.proofs.Common.{sym, ap, ◌∙◌}
use Rattle.tpm_model.specs.Sessions.{loaded}
use Rattle.tpm_session.specs.Entities.{entity_in, evidence_of}
use Rattle.tpm_session.proofs.Authorized.{session_replies, password_replies, no_evidence, named}
use Rattle.tpm_session.proofs.sessions.Sessions.reply_auth.Goals as goal

pub returns-in-Ok-Some-clause-answer : goal.returns-in-Ok-Some-clause-answer
returns-in-Ok-Some-clause-answer c = λ claim auths x own command value owner known.
    let a = c.args.how.now.first.now in
    let said = c.args.answered.now in
    session_replies c.in-Ok-Some.session.now (loaded c.args.self.now a.session) claim.entity (entity_in c.args.entity.now) said.command claim.names
    claim.params claim.update_counter a own.others x said.params.now said.nonce.now c.reply.result
    (sym (rw c.in-Ok-Some.field-0-is at c.in-Ok-Some.ensures) ∙ named c.args.self.now a.session c.args.how.now.slot own.by)
    (rw command at (sym (ap (evidence_of c.args.self.now claim) own.are) ∙ known)) value owner
    (rw c.follows.ensures at c.reply.ensures)

pub returns-in-Ok-None-clause-answer : goal.returns-in-Ok-None-clause-answer
returns-in-Ok-None-clause-answer c = λ claim auths x own command value owner known.
    let a = c.args.how.now.first.now in
    let said = c.args.answered.now in
    password_replies (loaded c.args.self.now a.session) claim.entity said.command claim.names claim.params claim.update_counter a own.others x
    said.params.now said.nonce.now c.password_reply.result
    (sym (rw c.in-Ok-None.field-0-is at c.in-Ok-None.ensures) ∙ named c.args.self.now a.session c.args.how.now.slot own.by)
    (rw command at (sym (ap (evidence_of c.args.self.now claim) own.are) ∙ known))
    c.password_reply.ensures

pub returns-in-Err-clause-answer : goal.returns-in-Err-clause-answer
returns-in-Err-clause-answer c = λ claim auths x own command value owner known.
    let a = c.args.how.now.first.now in
    absurd (no_evidence (loaded c.args.self.now a.session) claim.entity c.args.answered.now.command claim.names claim.params claim.update_counter a own.others
    x c.in-Err.field-0 (sym c.in-Err.ensures ∙ named c.args.self.now a.session c.args.how.now.slot own.by)
    (rw command at (sym (ap (evidence_of c.args.self.now claim) own.are) ∙ known)))
