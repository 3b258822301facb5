use Rattle.tpm_session.proofs.Asserted.{asserts_code}
use Rattle.tpm_session.proofs.sessions.Sessions.policy_command_code.Goals as goal

pub returns-clause-asserted : goal.returns-clause-asserted
returns-clause-asserted c =
    λ o h command reply nonce same auths at. asserts_code o h command reply nonce c.args.session c.args.code _ _ c.assert.ensures same auths at
