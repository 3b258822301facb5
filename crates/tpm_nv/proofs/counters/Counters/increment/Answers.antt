use Rattle.std.proofs.Common.{◌≡◌, ◌≤◌, List, get_or, length, max, arith, Ok, true, false, refl, sym, ap, ◌∙◌, rules}
use Rattle.arrayvec.proofs.ArrayVecLemmas.{items-with_items}
use Rattle.tpm_types.specs.Tpma.{owner_writes}
use Rattle.tpm_model.specs.Counters.{Counter, next_value, counter_in, value_of}
use Rattle.tpm_model.specs.Actions.{may}
use Rattle.tpm_nv.proofs.Found.{entry_found, may_writes, raised_to, not_raised, increment_is, same_memory}
use Rattle.tpm_model.proofs.Kept.{checked_incremented}
use Rattle.tpm_nv.proofs.counters.Counters.increment.Goals as goal

pub returns-then-not-may-clause-answer : goal.returns-then-not-may-clause-answer
returns-then-not-may-clause-answer c =
    let i = c.args.index in let r = c.index-as_slice-k.result in
    let found = entry_found i c.in-Some.k c.as_slice.result.now c.as_slice-2.result.now c.self.inside.counters.items r r
    c.as_slice.ensures.value c.as_slice-2.ensures.value c.in-Some.ensures.some c.index-as_slice-k.is refl in
    let is : c.may.result ≡ false = search rules in
    let refused : may c.args.by (owner_writes r.public.attrs) i ≡ false =
    may_writes c.args.by i _ r _ _ _ c.may.ensures c.owner_writes.ensures c.attrs.ensures c.definition.ensures ∙ is in
    rw (← c.self.view_is, found, refused) refl

pub returns-in_default-raised-clause-answer : goal.returns-in_default-raised-clause-answer
returns-in_default-raised-clause-answer c =
    let i = c.args.index in let r = c.index-as_slice-k.result in
    let found = entry_found i c.in-Some.k c.as_slice.result.now c.as_slice-2.result.now c.self.inside.counters.items r r
    c.as_slice.ensures.value c.as_slice-2.ensures.value c.in-Some.ensures.some c.index-as_slice-k.is refl in
    let is : c.may.result ≡ true = search rules in
    let allowed : may c.args.by (owner_writes r.public.attrs) i ≡ true =
    may_writes c.args.by i _ r _ _ _ c.may.ensures c.owner_writes.ensures c.attrs.ensures c.definition.ensures ∙ is in
    let past = not_raised c.self.inside.greatest r.value (sym c.in_default-raised.is ∙ rw c.value.ensures at c.raised.ensures) in
    rw (← c.self.view_is, found, allowed, past) refl

pub returns-clause-answer : goal.returns-clause-answer
returns-clause-answer c =
    let i = c.args.index in let r = c.index-as_slice-k.result in
    let found = entry_found i c.in-Some.k c.as_slice.result.now c.as_slice-2.result.now c.self.inside.counters.items r r
    c.as_slice.ensures.value c.as_slice-2.ensures.value c.in-Some.ensures.some c.index-as_slice-k.is refl in
    let is : c.may.result ≡ true = search rules in
    let allowed : may c.args.by (owner_writes r.public.attrs) i ≡ true =
    may_writes c.args.by i _ r _ _ _ c.may.ensures c.owner_writes.ensures c.attrs.ensures c.definition.ensures ∙ is in
    let raised = raised_to c.self.inside.greatest r.value c.in-Some-raised.value
    (sym c.in-Some-raised.is ∙ rw c.value.ensures at c.raised.ensures) in
    rw (← c.self.view_is, found, allowed, raised.0) (ap Ok raised.1)

pub returns-clause-incremented : goal.returns-clause-incremented
returns-clause-incremented c =
    let i = c.args.index in let r = c.index-as_slice-k.result in let items = c.self.inside.counters.items in let greatest = c.self.inside.greatest in
    let one = c.as_slice.result.now in let two = c.as_slice-2.result.now in let three = c.as_mut_slice.result.now in
    let first = c.as_slice.ensures.value in let second = c.as_slice-2.ensures.value in let third = c.as_mut_slice.ensures.value in
    let found = entry_found i c.in-Some.k one two items r r first second c.in-Some.ensures.some c.index-as_slice-k.is refl in
    let raised = raised_to greatest r.value c.in-Some-raised.value (sym c.in-Some-raised.is ∙ rw c.value.ensures at c.raised.ensures) in
    let wrote = c.write.ensures r (sym (c.index-as_slice-k.is ∙ ap (λ (l : List Counter). get_or l c.in-Some.k r) (second ∙ sym third))) in
    let long : length c.write.new.counters ≡ length items = c.write.auto.counters ∙ ap length third in
    rw (← c.self.view_is, found) (same_memory _ _ _ _ _
    (items-with_items c.self.inside.counters c.write.new.counters long
    ∙ increment_is i c.in-Some.k greatest c.in-Some-raised.value one two three items c.write.new.counters r first second third c.in-Some.ensures.some
    c.index-as_slice-k.is raised.1 wrote)
    (c.max-self-inside.ensures ∙ ap (max greatest) raised.1) refl)

pub invariant_of-self : goal.invariant_of-self
invariant_of-self c =
    let i = c.args.index in let r = c.index-as_slice-k.result in let items = c.self.inside.counters.items in let greatest = c.self.inside.greatest in
    let one = c.as_slice.result.now in let two = c.as_slice-2.result.now in let three = c.as_mut_slice.result.now in
    let first = c.as_slice.ensures.value in let second = c.as_slice-2.ensures.value in let third = c.as_mut_slice.ensures.value in
    let found = entry_found i c.in-Some.k one two items r r first second c.in-Some.ensures.some c.index-as_slice-k.is refl in
    let raised = raised_to greatest r.value c.in-Some-raised.value (sym c.in-Some-raised.is ∙ rw c.value.ensures at c.raised.ensures) in
    let wrote = c.write.ensures r (sym (c.index-as_slice-k.is ∙ ap (λ (l : List Counter). get_or l c.in-Some.k r) (second ∙ sym third))) in
    let long : length c.write.new.counters ≡ length items = c.write.auto.counters ∙ ap length third in
    let stored =
    items-with_items c.self.inside.counters c.write.new.counters long
    ∙ increment_is i c.in-Some.k greatest c.in-Some-raised.value one two three items c.write.new.counters r first second third c.in-Some.ensures.some
    c.index-as_slice-k.is raised.1 wrote in
    let most : c.max-self-inside.result ≡ max greatest (next_value greatest r.value) = c.max-self-inside.ensures ∙ ap (max greatest) raised.1 in
    let few : next_value greatest (value_of (counter_in items i)) ≤ max greatest (next_value greatest r.value) =
    rw found (omega arith) in
    rw (stored, most) (checked_incremented i greatest (max greatest (next_value greatest r.value)) items (omega arith) few c.self.invariant)
