use Rattle.std.proofs.Common.{rules, ◌≡◌, ◌∙◌, ap, Some}
use Rattle.std.proofs.lemmas.Option.{same_Some}
use Rattle.tpm_model.specs.Sessions.{Session, loaded}
use Rattle.tpm_session.proofs.Asserted.{digest_held}
use Rattle.tpm_session.proofs.sessions.Sessions.policy_digest.Goals as goal

pub returns-clause-digest : goal.returns-clause-digest
returns-clause-digest c = λ o h at s is.
    let there : Some c.in_ok-held.held.now ≡ loaded c.args.self.now c.args.session = search rules in
    c.policy_digest.ensures ∙ ap (λ (x : Session). x.policy.digest) (same_Some c.in_ok-held.held.now s (there ∙ is))
    ∙ digest_held o h c.args.session s c.args.self.now is at
