-- The test of decimal digits, and what `parse` says of them.
use Rattle.std.proofs.Common.{rules, ◌≡◌, ◌<◌, ◌^◌, ◌&&◌, nat_lt, ℕ, Bool, true, false, List, [], ◌∷◌, length, refl}
use Rattle.std.proofs.Common.{sym, arith}
use Rattle.std.proofs.lemmas.Bool.Decides.{nat_tests}
use Rattle.std.proofs.lemmas.Str.Parse.{tells_digits, tells_all_ascii_digits}
use Rattle.std.specs.Str.Parse.{AllDigits, IsNumeral, digits_value}
use Rattle.std.specs.Str.{all_ascii_digits}
use Rattle.tpm_names.specs.Numbers.{IsDecimal}
use Rattle.tpm_names.specs.Selections.{is_numeral}

digits_pass : (ds : List ℕ) → AllDigits 10 ds → all_ascii_digits ds ≡ true
digits_pass [] h = refl
digits_pass (c ∷ cs) h = let p = tells_digits.parts c cs h in tells_all_ascii_digits.more c cs p.0 (digits_pass cs p.1)

are_digits : (ds : List ℕ) → all_ascii_digits ds ≡ true → AllDigits 10 ds
are_digits [] h = tells_digits.empty
are_digits (c ∷ cs) h = let p = tells_all_ascii_digits.parts c cs h in tells_digits.more c cs p.0 (are_digits cs p.1)

passes : (ds : List ℕ) → IsNumeral 10 ds → is_numeral ds ≡ true
passes ds h = rw (digits_pass ds h.1) (grind (arith, nat_tests, h.0))

second : (a b : Bool) → (a && b) ≡ true → b ≡ true
second true b h = h
second false true h = refl
second false false h = h

is_one : (ds : List ℕ) → is_numeral ds ≡ true → IsNumeral 10 ds
is_one [] h = absurd (let k : ⊥ = search (rules, h) in k)
is_one (c ∷ cs) h = (omega arith, are_digits (c ∷ cs) (second (nat_lt 0 (length (c ∷ cs))) (all_ascii_digits (c ∷ cs)) h))

-- a test of the number of a numeral
pub tested : (ds : List ℕ) (n : ℕ) (test : ℕ → Bool) → IsDecimal ds n → test n ≡ is_numeral ds && test (digits_value 10 ds)
tested ds n test h = rw (passes ds h.0, h.1) refl

-- a text that is no numeral below the bound, where the test passes none above
pub not_tested : (ds : List ℕ) (test : Bool) → (test ≡ true → digits_value 10 ds < 2 ^ 64) → ((n : ℕ) → IsDecimal ds n → ⊥) → false ≡ is_numeral ds && test
not_tested ds test small none = sym (elim (is_numeral ds) as (λ b. is_numeral ds ≡ b → (b && test) ≡ false) [
  | true ↦ λ t. elim test as (λ b. test ≡ b → (true && b) ≡ false) [
    | true ↦ λ u. absurd (none (digits_value 10 ds) (is_one ds t, refl, small u))
    | false ↦ λ u. refl
  ] refl
  | false ↦ λ f. refl
] refl)
