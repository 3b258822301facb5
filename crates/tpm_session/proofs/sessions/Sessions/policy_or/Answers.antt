use Rattle.tpm_session.proofs.Asserted.{asserts_choice}
use Rattle.tpm_session.proofs.sessions.Sessions.policy_or.Goals as goal

pub returns-clause-asserted : goal.returns-clause-asserted
returns-clause-asserted c =
    λ o h command reply nonce same auths at. asserts_choice o h command reply nonce c.args.session c.args.digests.now _ _ c.assert.ensures same auths at
