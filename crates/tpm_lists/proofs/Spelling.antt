-- What hexadecimal digits spell, two to a byte.
use Rattle.std.proofs.Common.{◌≡◌, ◌<◌, ◌≤◌, ◌+◌, ◌*◌, ℕ, List, Bool, true, false, Some, None, Ok, Err}
use Rattle.std.proofs.Common.{length, slice_index, take, drop, is_some}
use Rattle.std.proofs.Common.{arith, refl, ap, subst, sym, ◌∙◌, Result, eqb}
use Rattle.std.specs.Prelude.{◌≢◌, Option, slice_set, unwrap_or}
use Rattle.std.specs.List.{list_all}
use Rattle.std.proofs.lemmas.Bool.{eq-eqb, eqb-true}
use Rattle.std.proofs.lemmas.List.{get_or-set_other, get_or-set_same}
use Rattle.std.proofs.lemmas.List.Sums.{AllPass-from_list_all, list_all-from_AllPass}
use Rattle.hex.specs.Hex.{decode_of, decode_pairs, hex_digit_value, is_hex_digit, pair_value}
use Rattle.hex.specs.declared.error.FromHexError.{FromHexError}
use Rattle.hex.proofs.HexLemmas.{decode_of-even, decode_of-ok}
use Rattle.hex.proofs.Pairs.{decode_done, decode_step, prepend}
use Rattle.tpm_types.specs.declared.alg.Alg.{Alg}
use Rattle.tpm_types.specs.Alg.{digest_len}
use Rattle.tpm_output.specs.Text.{bytes_in, value_of}
use Rattle.tpm_lists.specs.declared.allow_lines.AllowLine.TheVariants.{Wrong}
use Rattle.tpm_lists.specs.AllowLines.{allowing}
use Rattle.tpm_lists.specs.inner.Digits.{AreValues}

-- ---- one byte

some_is : (o : Option ℕ) (v : ℕ) → is_some o ≡ true → v ≡ unwrap_or o 0 → o ≡ Some v
some_is (Some w) v is same = ap Some (sym same)
some_is None v is same = cc is

pub two_digits : (high low i v w : ℕ) → is_hex_digit high ≡ true → is_hex_digit low ≡ true
    → v ≡ unwrap_or (hex_digit_value high) 0 → w ≡ unwrap_or (hex_digit_value low) 0 → pair_value high low i ≡ Ok (v * 16 + w)
two_digits high low i v w one two first second =
    rw (some_is (hex_digit_value high) v one first, some_is (hex_digit_value low) w two second) refl

-- ---- the values of digits

below_of : (m n : ℕ) → m < n + 1 → (m ≡ n → ⊥) → m < n
below_of m n less other = omega (arith, less, other)

-- one more
pub values_more : (digits values : List ℕ) (n v : ℕ) → n < length values → v ≡ unwrap_or (hex_digit_value (slice_index digits n)) 0
    → AreValues digits values n → AreValues digits (slice_set values n v) (n + 1)
values_more digits values n v inside is so-far = λ k less. go k less (eqb k n) refl
  where
    go : (k : ℕ) → k < n + 1 → (b : Bool) → eqb k n ≡ b
        → slice_index (slice_set values n v) k ≡ unwrap_or (hex_digit_value (slice_index digits k)) 0
    go k less true same =
        let here : n ≡ k = sym (eqb-true k n same) in
        subst (λ (i : ℕ). slice_index (slice_set values n v) i ≡ unwrap_or (hex_digit_value (slice_index digits i)) 0) here
        (get_or-set_same values n v 0 inside ∙ is)
    go k less false other =
        let apart : k ≢ n = λ e. absurd (let t : true ≡ false = sym (eq-eqb k n e) ∙ other in cc) in
        get_or-set_other values n k v 0 apart ∙ so-far k (below_of k n less apart)

-- ---- all of them

-- The first bytes are written, so many of them.
abbrev pub AreWritten : (digits bytes : List ℕ) (n : ℕ) → Type 0
AreWritten digits bytes n = decode_pairs 0 digits ≡ prepend (take n bytes) (decode_pairs (2 * n) (drop (2 * n) digits))

module _ (digits bytes : List ℕ) (n : ℕ) (long : length digits ≡ 2 * length bytes) (so-far : AreWritten digits bytes n) where
  digit_at : list_all is_hex_digit digits ≡ true → (k : ℕ) → k < length digits → is_hex_digit (slice_index digits k) ≡ true
  digit_at are k less = AllPass-from_list_all is_hex_digit digits are k 0 less

  -- one more is
  pub one_more : list_all is_hex_digit digits ≡ true → n < length bytes → (v w : ℕ)
      → v ≡ unwrap_or (hex_digit_value (slice_index digits (2 * n))) 0
      → w ≡ unwrap_or (hex_digit_value (slice_index digits (2 * n + 1))) 0
      → AreWritten digits (slice_set bytes n (v * 16 + w)) (n + 1)
  one_more are inside v w one two =
      decode_step digits bytes n (v * 16 + w) (omega (arith, long, inside)) inside
      (two_digits (slice_index digits (2 * n)) (slice_index digits (2 * n + 1)) (2 * n) v w (digit_at are (2 * n) (omega (arith, long, inside)))
      (digit_at are (2 * n + 1) (omega (arith, long, inside))) one two)
      so-far

  -- or they are all
  pub all_written : length bytes ≤ n → bytes_in digits ≡ Some bytes
  all_written end =
      ap value_of (decode_of-even digits (omega (arith, long)) ∙ decode_done digits bytes n end (omega (arith, long, end)) so-far)

decoded : (digits bytes : List ℕ) → bytes_in digits ≡ Some bytes → decode_of digits ≡ Ok bytes
decoded digits bytes is = go (decode_of digits) is
  where
    go : (r : Result (List ℕ) FromHexError) → value_of r ≡ Some bytes → r ≡ Ok bytes
    go (Ok other) same = cc same
    go (Err e) none = cc none

-- They are two for each byte.
twice : (digits bytes : List ℕ) → bytes_in digits ≡ Some bytes → length digits ≡ 2 * length bytes
twice digits bytes is = (decode_of-ok digits bytes (decoded digits bytes is)).2

-- Another byte spells nothing.
pub none_spelled : (digits : List ℕ) → list_all is_hex_digit digits ≡ false → bytes_in digits ≡ None
none_spelled digits other = go (bytes_in digits) refl
  where
    go : (o : Option (List ℕ)) → bytes_in digits ≡ o → bytes_in digits ≡ None
    go None is = is
    go (Some bytes) is =
        let all = list_all-from_AllPass is_hex_digit digits (decode_of-ok digits bytes (decoded digits bytes is)).1 in
        absurd (let z : true ≡ false = sym all ∙ other in cc z)

-- ---- a digest of the bank

pub two_bytes : (bank : Alg) → 2 ≤ digest_len bank
two_bytes bank = grind arith

module _ (bank : Alg) (register : ℕ) (digits : List ℕ) where
  pub other_byte : list_all is_hex_digit digits ≡ false → allowing bank register (bytes_in digits) ≡ Wrong
  other_byte other = ap (allowing bank register) (none_spelled digits other)

  pub other_length : (length digits ≡ 2 * digest_len bank → ⊥) → allowing bank register (bytes_in digits) ≡ Wrong
  other_length other = go (bytes_in digits) refl
    where
      go : (o : Option (List ℕ)) → bytes_in digits ≡ o → allowing bank register o ≡ Wrong
      go None is = refl
      go (Some bytes) is = sized (eqb (length bytes) (digest_len bank)) refl
        where
          sized : (b : Bool) → eqb (length bytes) (digest_len bank) ≡ b → allowing bank register (Some bytes) ≡ Wrong
          sized true same =
              let size = eqb-true (length bytes) (digest_len bank) same in
              absurd (other (let z = twice digits bytes is in omega (arith, z, size)))
          sized false differs = rw differs refl
