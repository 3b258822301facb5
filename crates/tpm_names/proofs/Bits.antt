-- A bit that is set, and those beside it.
use Rattle.std.proofs.Common.{◌≡◌, ◌≢◌, ℕ, ◌+◌, ◌*◌, ◌/◌, ◌%◌, ◌<◌, ◌≤◌, ◌^◌, ◌==◌, [], ◌∷◌, slice_index, Bool, true}
use Rattle.std.proofs.Common.{false, not, bit_and, bit_or, w8, inl, inr, refl, sym, subst, ap, ◌∙◌, arith}
use Rattle.std.proofs.lemmas.Nat.Bits.{and_pow, bit_at_set_same, bit_at_set_other}
use Rattle.std.proofs.lemmas.Nat.{pow_pos}
use Rattle.std.proofs.lemmas.Bool.Decides.{nat_tests}
use Rattle.std.proofs.lemmas.Bool.{cases_lt}
use Rattle.std.specs.Int.{bit_at}
use Rattle.tpm_types.specs.Tpma.{is_set}
use Rattle.tpm_types.specs.Tpms.{is_selected}

tests_bit : (i n : ℕ) → is_set i n ≡ not (bit_at n i * 2 ^ i == 0)
tests_bit i n = ap (λ m. not (bit_and n m == 0)) (let k : 2 ^ i + 0 ≡ 2 ^ i = omega arith in k) ∙ ap (λ x. not (x == 0)) (and_pow n i)

pub set_same : (n bit : ℕ) → bit < 8 → is_set bit (bit_or n (1 * 2 ^ bit % 256)) ≡ true
set_same n bit h = tests_bit bit (bit_or n (1 * 2 ^ bit % 256))
    ∙ ap (λ x. not (x * 2 ^ bit == 0)) (bit_at_set_same w8 n bit h) ∙ grind (arith, nat_tests, pow_pos bit)

pub set_other : (n bit i : ℕ) → bit < 8 → i ≢ bit → is_set i (bit_or n (1 * 2 ^ bit % 256)) ≡ is_set i n
set_other n bit i h apart = tests_bit i (bit_or n (1 * 2 ^ bit % 256))
    ∙ ap (λ x. not (x * 2 ^ i == 0)) (bit_at_set_other w8 n bit h i apart) ∙ sym (tests_bit i n)

-- the bits below one that is set now, and it
pub below_set : (n bit : ℕ) (named : ℕ → Bool) → bit < 8 → ((i : ℕ) → i < bit → is_set i n ≡ named i) → named bit ≡ true →
    (i : ℕ) → i < bit + 1 → is_set i (bit_or n (1 * 2 ^ bit % 256)) ≡ named i
below_set n bit named h below here i most = elim (cases_lt i bit) [
  | inl low ↦ set_other n bit i h (λ e. let k : ⊥ = omega (arith, e, low) in k) ∙ below i low
  | inr high ↦ let e : i ≡ bit = omega (arith, high, most) in
      subst (λ j. is_set j (bit_or n (1 * 2 ^ bit % 256)) ≡ named j) (sym e) (set_same n bit h ∙ sym here)
]

-- the same of one that stays clear
pub below_clear : (n bit : ℕ) (named : ℕ → Bool) → ((i : ℕ) → i < bit → is_set i n ≡ named i) → is_set bit n ≡ false → named bit ≡ false →
    (i : ℕ) → i < bit + 1 → is_set i n ≡ named i
below_clear n bit named below clear here i most = elim (cases_lt i bit) [
  | inl low ↦ below i low
  | inr high ↦ let e : i ≡ bit = omega (arith, high, most) in subst (λ j. is_set j n ≡ named j) (sym e) (clear ∙ sym here)
]

pub above_set : (n bit : ℕ) → bit < 8 → ((i : ℕ) → bit ≤ i → is_set i n ≡ false) → (i : ℕ) → bit + 1 ≤ i → is_set i (bit_or n (1 * 2 ^ bit % 256)) ≡ false
above_set n bit h above i least = set_other n bit i h (λ e. let k : ⊥ = omega (arith, e, least) in k) ∙ above i (omega (arith, least))

in_byte : (a b c : ℕ) (named : ℕ → Bool) (r k n : ℕ) → r / 8 ≡ k → slice_index (a ∷ b ∷ c ∷ []) k ≡ n
    → ((i : ℕ) → i < 8 → is_set i n ≡ named (8 * k + i)) → is_selected (a ∷ b ∷ c ∷ []) r ≡ named r
in_byte a b c named r k n at is bits =
    ap (λ j. is_set (r % 8) (slice_index (a ∷ b ∷ c ∷ []) j)) at ∙ ap (is_set (r % 8)) is ∙ bits (r % 8) (omega arith)
    ∙ ap named (let e : 8 * k + r % 8 ≡ r = omega (arith, at) in e)

-- the registers of three bytes
pub in_bytes : (a b c : ℕ) (named : ℕ → Bool) → ((i : ℕ) → i < 8 → is_set i a ≡ named (0 + i))
    → ((i : ℕ) → i < 8 → is_set i b ≡ named (8 + i)) → ((i : ℕ) → i < 8 → is_set i c ≡ named (16 + i)) →
    (r : ℕ) → r < 24 → is_selected (a ∷ b ∷ c ∷ []) r ≡ named r
in_bytes a b c named first second third r h = elim (cases_lt r 8) [
  | inl low ↦ in_byte a b c named r 0 a (omega (arith, low)) refl first
  | inr high ↦ elim (cases_lt r 16) [
    | inl low ↦ in_byte a b c named r 1 b (omega (arith, low, high)) refl second
    | inr higher ↦ in_byte a b c named r 2 c (omega (arith, h, higher)) refl third
  ]
]
