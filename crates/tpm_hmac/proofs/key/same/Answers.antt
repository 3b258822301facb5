use Rattle.std.proofs.Common.{rules, ◌≡◌, length, sym, ap, ◌∙◌, arith, inl, inr}
use Rattle.std.proofs.lemmas.Bool.Decides.{nat_tests}
use Rattle.std.specs.Slice.Iter.{iter_rest}
use Rattle.tpm_hmac.proofs.Differences.{none_behind, none_before, both_nothing}
use Rattle.tpm_hmac.proofs.key.same.Goals as goal

pub loop-x-preserved : goal.loop-x-preserved
loop-x-preserved c =
    let before = c.loop-x.invariant in let steps = c.in-Some.ensures.steps in
    let d = c.loop-x.differences in let x = c.in-Some.field-0-0.now in let y = c.in-Some.field-0-1.now in
    let xs = iter_rest c.next.new.self.a in let ys = iter_rest c.next.new.self.b in
    record {
      long = omega (arith, before.long, ap length steps.0, ap length steps.1);
      differ = λ e. none_behind d x y xs ys (before.differ e).0 (sym steps.0 ∙ (before.differ e).1 ∙ steps.1);
      same = λ none rest. let both = none_before d x y xs ys none rest in before.same both.0 (steps.0 ∙ both.1 ∙ sym steps.1);
    }

pub returns : goal.returns
returns c =
    let before = c.loop-x.invariant in
    let xs = iter_rest c.loop-x.x-iterator.a in let ys = iter_rest c.loop-x.x-iterator.b in
    let none : length xs ≡ 0 = elim c.in-None.ensures.steps [ inl first ↦ first.1.0 | inr second ↦ omega (arith, before.long, second.1.0) ] in (
      λ is_zero. before.same (grind (arith, nat_tests, is_zero)) (both_nothing xs ys before.long none),
      λ e. let zero : c.loop-x.differences ≡ 0 = (before.differ e).0 in rw zero (search rules),
    )
