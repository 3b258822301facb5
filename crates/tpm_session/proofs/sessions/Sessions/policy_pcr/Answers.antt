use Rattle.std.proofs.Common.{rules, ◌≡◌, ◌∙◌, ap, Some, option_map}
use Rattle.tpm_types.specs.declared.alg.Alg.{Alg}
use Rattle.tpm_pcr.specs.Registers.{value_in, composite}
use Rattle.tpm_model.specs.Policies.{Assertion}
use Rattle.tpm_model.specs.Sessions.{loaded, slot_of}
use Rattle.tpm_session.specs.inner.Asserting.{asserting, with_slot}
use Rattle.tpm_session.proofs.Asserted.{asserts_registers}
use Rattle.tpm_session.proofs.sessions.Sessions.policy_pcr.Goals as goal

pub returns-clause-asserted : goal.returns-clause-asserted
returns-clause-asserted c = λ o h command reply nonce same auths are at.
    let now = c.args.registers.now in
    let selections = c.args.selections.now in
    let there : loaded c.args.self.now c.args.session ≡ Some c.in_ok-held.held.now = search rules in
    let asserted = c.registers_asserted-asserted.ensures now
    (c.composite-composite.ensures ∙ ap (λ (alg : Alg). composite alg (value_in now.banks) selections) c.hash.ensures)
    c.update_counter-update_counter.ensures in
    asserts_registers o h command reply nonce c.args.session c.args.pcr_digest.now selections now c.in_ok-held.held.now _ _
    (c.assert.ensures ∙ ap (λ (a : Assertion). with_slot (slot_of c.args.session) (option_map (asserting a)) c.args.self.now) asserted)
    there same auths are at
