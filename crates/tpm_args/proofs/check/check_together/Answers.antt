use Rattle.std.proofs.Common.{◌≡◌, ◌∙◌, sym, List, ℕ, Option, Some, None, Bor}
use Rattle.std.specs.Option.{MatchOption, option_or}
use Rattle.tpm_args.proofs.Found.{memory_or}
use Rattle.tpm_args.proofs.check.check_together.Goals as goal

both_hold : {A P Q : Type 0} (a b : Option A) → option_or a b ≡ None → MatchOption a P (λ _. P → ⊥) → MatchOption b Q (λ _. Q → ⊥) → P × Q
both_hold None None is p q = (p, q)
both_hold None (Some y) is p q = let z : ⊥ = cc in absurd z
both_hold (Some x) b is p q = let z : ⊥ = cc in absurd z

one_fails : {A P Q : Type 0} (a b : Option A) (x : A) → option_or a b ≡ Some x → MatchOption a P (λ _. P → ⊥) → MatchOption b Q (λ _. Q → ⊥)
    → P × Q → ⊥
one_fails (Some y) b x is p q h = p h.0
one_fails None (Some y) x is p q h = q h.1
one_fails None None x is p q h = let z : ⊥ = cc in z

pub returns-in-None : goal.returns-in-None
returns-in-None c =
    both_hold c.flags_fault.result c.digests_fault.result (sym c.or.ensures ∙ c.in-None.is) c.flags_fault.ensures c.digests_fault.ensures

pub returns-in_ok-wrong_words-in-Some : goal.returns-in_ok-wrong_words-in-Some
returns-in_ok-wrong_words-in-Some c =
    memory_or c.in_ok-wrong_words-in-Some.field-0
    (λ _. one_fails c.flags_fault.result c.digests_fault.result c.in-Some.reason (sym c.or.ensures ∙ c.in-Some.is)
    c.flags_fault.ensures c.digests_fault.ensures)
    c.in_ok-wrong_words-in-Some.ensures
