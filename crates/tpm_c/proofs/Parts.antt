-- The parts of bytes by their places.
use Rattle.std.proofs.Common.{◌≡◌, ℕ, List, [], ◌∷◌, ◌++◌, length, take, drop, Option, Some, None, ap, ◌∙◌}
use Rattle.std.proofs.Math.Seq.{drop-append_seam, take-append_seam}
use Rattle.std.specs.Prelude.{slice_get}

-- a part behind so many bytes
pub part_is : (before xs after bytes : List ℕ) (n : ℕ) → bytes ≡ before ++ (xs ++ after) → length before ≡ n → take (length xs) (drop n bytes) ≡ xs
part_is before xs after bytes n is count =
    rw (is, ← count) (ap (take (length xs)) (drop-append_seam before (xs ++ after)) ∙ take-append_seam xs after)

-- sessions, one behind the other
module _ {A : Type 0} (Holds : ℕ → Option A → Type 0) (behind : ℕ → Option A → ℕ) where
  abbrev pub AreHeld : ℕ → List A → Type 0
  AreHeld n [] = Unit {0}
  AreHeld n (a ∷ auths) = Holds n (Some a) × AreHeld (behind n (Some a)) auths

  -- the first three, of which some may not be there
  pub first_three : ((n : ℕ) → Holds n None) → (n : ℕ) (auths : List A) → AreHeld n auths
      → Holds n (slice_get auths 0) × Holds (behind n (slice_get auths 0)) (slice_get auths 1)
      × Holds (behind (behind n (slice_get auths 0)) (slice_get auths 1)) (slice_get auths 2)
  first_three none n [] h = (none n, none _, none _)
  first_three none n (a ∷ []) h = (h.0, none _, none _)
  first_three none n (a ∷ b ∷ []) h = (h.0, h.1.0, none _)
  first_three none n (a ∷ b ∷ c ∷ auths) h = (h.0, h.1.0, h.1.1.0)
