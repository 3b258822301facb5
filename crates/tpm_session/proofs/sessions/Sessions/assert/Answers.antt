use Rattle.std.proofs.Common.{refl, ◌∙◌, ap, option_map}
use Rattle.tpm_model.specs.Sessions.{slot_of}
use Rattle.tpm_session.specs.Policies.{as_assertion}
use Rattle.tpm_session.specs.inner.Asserting.{asserting, with_slot}
use Rattle.tpm_session.proofs.Asserted.{slot_changed}
use Rattle.tpm_session.proofs.sessions.Sessions.assert.Goals as goal

pub returns : goal.returns
returns c =
    let change = option_map (asserting (as_assertion c.args.assertion.now)) in
    slot_changed change c.index-self-slot_of.result c.assert.new.slot c.slot_of.result c.args.session c.self.inside.slots _
    refl (c.assert.ensures ∙ rw (← c.index-self-slot_of.is) refl) c.index-self-slot_of.is (c.slot_of.ensures ∙ ap slot_of c.any_session.ensures)
    (rw c.self.view_is c.requires)
    ∙ ap (with_slot (slot_of c.args.session) change) c.self.view_is
