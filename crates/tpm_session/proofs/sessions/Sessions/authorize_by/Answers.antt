use Rattle.std.proofs.Common.{rules, ◌≡◌, Err, refl, sym, ap, ◌∙◌}
use Rattle.tpm_model.specs.Sessions.{loaded}
use Rattle.tpm_session.specs.Entities.{authorized}
use Rattle.tpm_session.proofs.Authorized.{authorize_is, authorize_refused, named}
use Rattle.tpm_session.proofs.sessions.Sessions.authorize_by.Goals as goal

pub returns : goal.returns
returns c = λ auths own.
    let a = c.args.how.now.first.now in
    let k = c.args.claim.now in
    c.check_evidence.ensures
    ∙ sym (ap (authorized c.args.self.now k) own.are ∙ authorize_is _ (loaded c.args.self.now a.session) k.entity k.command k.names k.params
    k.update_counter a own.others (sym c.in_ok-by.ensures ∙ named c.args.self.now a.session c.args.how.now.slot own.by)
    ∙ rw (← (c.in_ok-check_session.ensures own.others own.count), ← c.in_ok-check_entity.ensures) refl)

pub returns-in_err-check_entity : goal.returns-in_err-check_entity
returns-in_err-check_entity c = λ auths own.
    let a = c.args.how.now.first.now in
    let k = c.args.claim.now in
    let is : c.from_residual-in_err-check_entity.result ≡ Err c.in_err-check_entity.field-0.0 = search rules in
    is ∙ sym (ap (authorized c.args.self.now k) own.are ∙ authorize_is _ (loaded c.args.self.now a.session) k.entity k.command k.names k.params
    k.update_counter a own.others (sym c.in_ok-by.ensures ∙ named c.args.self.now a.session c.args.how.now.slot own.by)
    ∙ rw (← (c.in_ok-check_session.ensures own.others own.count), ← c.in_err-check_entity.ensures) refl)

pub returns-in_err-check_session : goal.returns-in_err-check_session
returns-in_err-check_session c = λ auths own.
    let a = c.args.how.now.first.now in
    let k = c.args.claim.now in
    let is : c.from_residual-in_err-check_session.result ≡ Err c.in_err-check_session.field-0.0 = search rules in
    is ∙ sym (ap (authorized c.args.self.now k) own.are ∙ authorize_is _ (loaded c.args.self.now a.session) k.entity k.command k.names k.params
    k.update_counter a own.others (sym c.in_ok-by.ensures ∙ named c.args.self.now a.session c.args.how.now.slot own.by)
    ∙ rw (← (c.in_err-check_session.ensures own.others own.count)) refl)

pub returns-in_err-by : goal.returns-in_err-by
returns-in_err-by c = λ auths own.
    let a = c.args.how.now.first.now in
    let k = c.args.claim.now in
    let is : c.from_residual.result ≡ Err c.in_err-by.field-0.0 = search rules in
    is ∙ sym (ap (authorized c.args.self.now k) own.are ∙ authorize_refused (loaded c.args.self.now a.session) k.entity k.command k.names k.params
    k.update_counter a own.others c.in_err-by.field-0.0 (sym c.in_err-by.ensures ∙ named c.args.self.now a.session c.args.how.now.slot own.by))
