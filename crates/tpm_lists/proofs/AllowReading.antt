-- A list of allowed digests, line by line.
use Rattle.std.proofs.Common.{◌≡◌, ◌<◌, ◌≤◌, ◌+◌, ◌-◌, ℕ, List, [], ◌∷◌, ◌++◌, Some, None, Ok, Err, length, take, drop, refl, ap, subst, sym, ◌∙◌}
use Rattle.std.proofs.Common.{append_assoc, arith, Bool, true, false}
use Rattle.std.proofs.lemmas.List.{append-nil, take_all}
use Rattle.std.proofs.lemmas.List.Splits.{slice_split_first, slice_split_none}
use Rattle.std.proofs.lemmas.Grind.{common_steps}
use Rattle.std.proofs.lemmas.List.Sums.{fails_before_first, position_or_len_is}
use Rattle.memchr.specs.Find.{IsFirstByte}
use Rattle.std.specs.Prelude.{position, slice_index, Option}
use Rattle.std.specs.List.{before_first, position_or_len, slice_split}
use Rattle.tpm_vouched.specs.declared.allowed.AllowedDigest.{AllowedDigest}
use Rattle.tpm_lists.specs.declared.allow_lines.AllowLine.TheVariants.{Allows}
use Rattle.tpm_lists.specs.AllowLines.{AllowRead, is_feed, with_allowed}
use Rattle.tpm_lists.specs.inner.AllowReading.{behind_these}

-- ---- what is found

pub one_more : (found : List AllowedDigest) (digest : AllowedDigest) (n : ℕ) (read : AllowRead)
    → behind_these (found ++ digest ∷ []) read ≡ behind_these found (with_allowed n (Allows digest) read)
one_more found digest n (Ok digests) = ap Ok (append_assoc found (digest ∷ []) digests)
one_more found digest n (Err number) = refl

pub to_end : (found : List AllowedDigest) → behind_these found (Ok []) ≡ Ok found
to_end found = ap Ok (append-nil found)

-- ---- a line

not_true : (b : Bool) → ¬ (b ≡ true) → b ≡ false
not_true true isnt = absurd (isnt refl)
not_true false isnt = refl

-- The first byte that passes is at its position.
pub first_byte : (test : ℕ → Bool) (bytes : List ℕ) (r : Option ℕ) → IsFirstByte test bytes r → r ≡ position test bytes
first_byte test bytes None none =
    let end : position_or_len test bytes ≡ length bytes =
    position_or_len_is test bytes (length bytes) 0 (omega arith) (λ k less. not_true (test (slice_index bytes k)) (none k (omega arith) less))
    (λ less. absurd (omega (arith, less))) in
    grind (arith, common_steps)
first_byte test bytes (Some k) found =
    let before = found.0 in
    let inside : k < length bytes = before.high in
    let is : position_or_len test bytes ≡ k =
    position_or_len_is test bytes k 0 (omega (arith, inside)) (λ j less. not_true (test (slice_index bytes j)) (before.before j (omega arith) less))
    (λ less. found.1) in
    grind (arith, common_steps)

module _ (bytes : List ℕ) where
  -- It ends at the first line feed.
  pub cut_at : (at : ℕ) → position is_feed bytes ≡ Some at → (take at bytes ≡ before_first is_feed bytes)
      × (slice_split is_feed bytes
      ≡ before_first is_feed bytes ∷ slice_split is_feed (take (length bytes - (at + 1)) (drop (at + 1) bytes)))
  cut_at at found =
      let is : position_or_len is_feed bytes ≡ at = grind (arith, common_steps) in
      let inside : at < length bytes = grind (arith, common_steps) in
      let behind : take (length bytes - (at + 1)) (drop (at + 1) bytes) ≡ drop (at + 1) bytes =
      take_all (length bytes - (at + 1)) (drop (at + 1) bytes) (grind (arith, common_steps)) in (
        ap (λ (n : ℕ). take n bytes) (sym is),
        rw behind
            (subst (λ (n : ℕ). slice_split is_feed bytes ≡ before_first is_feed bytes ∷ slice_split is_feed (drop (n + 1) bytes)) is
            (slice_split_first is_feed bytes 0 (omega arith))),
      )

  -- Without one it is the last.
  pub cut_none : position is_feed bytes ≡ None → (bytes ≡ before_first is_feed bytes)
      × (slice_split is_feed bytes ≡ before_first is_feed bytes ∷ [])
  cut_none none =
      let outside : length bytes ≤ position_or_len is_feed bytes = grind (arith, common_steps) in
      let all = sym (take_all (position_or_len is_feed bytes) bytes outside) in
      (all, slice_split_none is_feed bytes (λ k d less. fails_before_first is_feed bytes k d (omega arith)) ∙ ap (λ (l : List ℕ). l ∷ []) all)
