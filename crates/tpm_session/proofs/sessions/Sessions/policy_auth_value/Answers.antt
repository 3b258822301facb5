use Rattle.tpm_session.proofs.Asserted.{asserts_auth_value}
use Rattle.tpm_session.proofs.sessions.Sessions.policy_auth_value.Goals as goal

pub returns-clause-asserted : goal.returns-clause-asserted
returns-clause-asserted c =
    λ o h command reply nonce same auths at. asserts_auth_value o h command reply nonce c.args.session _ _ c.assert.ensures same auths at
