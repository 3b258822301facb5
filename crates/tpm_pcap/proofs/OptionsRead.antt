-- The options of an interface, one by one.
use Rattle.std.proofs.Common.{◌≡◌, ℕ, ◌+◌, ◌*◌, ◌/◌, ◌≤◌, ◌<◌, List, length, drop, Ok, refl, arith}
use Rattle.std.proofs.lemmas.Bool.{ne_eqb}
use Rattle.std.specs.Prelude.{zero, suc}
use Rattle.tpm_pcap.specs.declared.numbers.Order.{Order}
use Rattle.tpm_pcap.specs.Options.{option_in, value_from}

-- Behind an option with another code the value is what it is among the others.
pub record Goes (most : ℕ) (order : Order) (sought : ℕ) (options others : List ℕ) : Type 0 where
  pub fewer : ℕ
  pub most_is : most ≡ fewer + 1
  pub value : value_from most order sought options ≡ value_from fewer order sought others

pub goes : (most : ℕ) (order : Order) (sought : ℕ) (options : List ℕ) (code size : ℕ) (value : List ℕ)
    → option_in order options ≡ Ok ((code, size), value) → (code ≡ 0 → ⊥) → (code ≡ sought → ⊥) → 0 < length options → length options ≤ most
    → Goes most order sought options (drop ((size + 3) / 4 * 4) value)
goes zero order sought options code size value is a b some fits = absurd (omega (arith, some, fits))
goes (suc most) order sought options code size value is a b some fits =
    record { fewer = most; most_is = omega arith; value = rw (is, ne_eqb code 0 a, ne_eqb code sought b) refl }
