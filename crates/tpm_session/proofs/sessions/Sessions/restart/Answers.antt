use Rattle.std.proofs.Common.{rules, IsSome, refl, ◌∙◌, ap, option_map}
use Rattle.tpm_model.specs.Sessions.{loaded, slot_of}
use Rattle.tpm_session.specs.inner.Asserting.{restarted, with_slot}
use Rattle.tpm_session.proofs.Asserted.{restarts, slot_changed}
use Rattle.tpm_session.proofs.sessions.Sessions.restart.Goals as goal

pub returns-clause-restarted : goal.returns-clause-restarted
returns-clause-restarted c = λ o h command reply nonce same auths at.
    let change = option_map restarted in
    let there : IsSome (loaded c.args.self.now c.args.session) = search rules in
    let begun =
    slot_changed change c.index-self-slot_of.result c.restart.new.slot c.slot_of.result c.args.session c.self.inside.slots _
    refl (c.restart.ensures ∙ rw (← c.index-self-slot_of.is) refl) c.index-self-slot_of.is (c.slot_of.ensures ∙ ap slot_of c.any_session.ensures)
    (rw c.self.view_is there)
    ∙ ap (with_slot (slot_of c.args.session) change) c.self.view_is in
    restarts o h command reply nonce c.args.session _ _ begun same auths at
