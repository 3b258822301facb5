-- How many bytes a counted list takes.
use Rattle.std.proofs.Common.{◌≡◌, ℕ, ◌+◌, ◌*◌, ◌-◌, ◌^◌, ◌≤◌, ◌<◌, List, ◌++◌, length, min, ap, arith, inl, inr, length-append}
use Rattle.std.proofs.Math.Nat.{mul-le-mul, mul-le-mul_right}
use Rattle.std.proofs.lemmas.Bool.{cases_lt}

-- few entries of few bytes take no more than a number has
pub small : (m t : ℕ) → m ≤ 8 → t ≤ 4096 → m * t ≤ 32768
small m t few short = mul-le-mul few short

-- n entries of at most t bytes take no more than m of them
pub within : (n m t s : ℕ) → n ≤ m → s ≤ n * t → s ≤ m * t
within n m t s few fits = omega (arith, fits, mul-le-mul_right t few)

-- Bytes that were counted up to the greatest number are all counted, and four more have a number, where there can be
-- only few or there are only few.
pub all_counted : (p s j : ℕ) → s ≤ p → s ≡ min j (2 ^ 64 - 1) → (2 ^ 63 ≤ p → 4 + j < 2 ^ 64) → (s ≡ j) × (4 + s < 2 ^ 64)
all_counted p s j fits value large =
    elim (cases_lt p (2 ^ 63)) [
      | inl lt ↦ (omega arith, omega arith)
      | inr le ↦ let few : 4 + j < 2 ^ 64 = large le in (omega arith, omega arith)
    ]

-- entries that were read from few bytes take few
pub read_few : (whole count behind text rest : List ℕ) → length whole < 2 ^ 32 → whole ≡ count ++ behind → behind ≡ text ++ rest
    → 4 + length text < 2 ^ 64
read_few whole count behind text rest few first then = omega (
  arith,
  few,
  ap length first,
  length-append count behind,
  ap length then,
  length-append text rest,
)
