use Rattle.std.proofs.Common.{refl, sym, ap, ◌∙◌}
use Rattle.tpm_types.specs.Tpma.{continues}
use Rattle.tpm_session.proofs.Slots.{went_on}
use Rattle.tpm_session.proofs.sessions.Sessions.roll.Goals as goal

pub returns-in-Some : goal.returns-in-Some
returns-in-Some c = λ o h command reply own needs at.
    let a = c.args.how.now.first.now in
    let is = rw c.in-Some.is at own.by in
    went_on o h command reply c.args.nonce.now a own.others c.continues-keep.result c.index-self-slot.result c.roll.new.slot c.in-Some.slot
    c.self.inside.slots _ refl (c.roll.ensures ∙ rw (← c.index-self-slot.is) refl) c.index-self-slot.is is.1 (rw c.self.view_is is.2) own.are
    (sym (c.continues-keep.ensures ∙ ap continues c.attrs.ensures)) needs (c.self.view_is ∙ at)
