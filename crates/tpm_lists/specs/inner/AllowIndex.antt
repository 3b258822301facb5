-- Allowed digests in the chains of their buckets.
use Rattle.std.specs.Prelude.{◌≡◌, ◌≤◌, ◌<◌, ◌+◌, ◌*◌, ◌%◌, ◌&&◌, ◌==◌, ℕ, Bool, List, ◌∷◌}
use Rattle.std.specs.Prelude.{get_or, length, take, nat_eq}
use Rattle.std.specs.Cmp.Lexicographic.{pointwise}
use Rattle.std.specs.List.{list_any}
use Rattle.tpm_types.specs.declared.alg.Alg.{Alg}
use Rattle.tpm_types.specs.Alg.{alg_number}
use Rattle.tpm_vouched.specs.declared.allowed.AllowedDigest.{AllowedDigest}
use Rattle.tpm_vouched.specs.Allowed.{is_for, names}

-- by the first two bytes of a digest
abbrev pub bucket : List ℕ → ℕ
bucket (first ∷ second ∷ rest) = (first * 256 + second) % 16384
bucket _ = 0

abbrev pub bucket_of : AllowedDigest → ℕ
bucket_of a = bucket a.digest.1

abbrev pub is_place : Alg → (register : ℕ) → Alg × ℕ → Bool
is_place bank register place = (alg_number place.0 == alg_number bank) && (place.1 == register)

-- It is this one, for this register of the bank.
abbrev pub is_this : Alg → (register : ℕ) → List ℕ → AllowedDigest → Bool
is_this bank register digest a = is_for bank register a && pointwise nat_eq a.digest.1 digest

-- Of the first digests, so many of them, those in this bucket are among the first ones up to a place, of which the last
-- is in it.
pub record EndsAt (digests : List AllowedDigest) (b count place : ℕ) : Type 0 where
  pub within : place ≤ count
  pub finds : (bank : Alg) (register : ℕ) (digest : List ℕ) → bucket digest ≡ b
      → list_any (is_this bank register digest) (take count digests)
      ≡ list_any (is_this bank register digest) (take place digests)
  pub last : (n : ℕ) (a : AllowedDigest) → place ≡ n + 1 → a ≡ get_or digests n a → bucket_of a ≡ b

-- That is told of each bucket.
abbrev pub AreLast : List AllowedDigest → (count : ℕ) → (last : List ℕ) → Type 0
AreLast digests count last = (b : ℕ) → b < 16384 → EndsAt digests b count (get_or last b 0)

-- That is told of those before each digest, in its bucket.
abbrev pub AreBefore : List AllowedDigest → (count : ℕ) → (before : List ℕ) → Type 0
AreBefore digests count before =
    (n : ℕ) (a : AllowedDigest) → n < count → a ≡ get_or digests n a
    → EndsAt digests (bucket_of a) n (get_or before n 0)

-- the chains of the first digests, so many of them
pub record AreChains (digests : List AllowedDigest) (count : ℕ) (last before : List ℕ) : Type 0 where
  pub buckets : length last ≡ 16384
  pub long : length before ≡ count
  pub ends : AreLast digests count last
  pub each : AreBefore digests count before

-- Each register that has a digest is a place.
abbrev pub ArePlaces : List AllowedDigest → List (Alg × ℕ) → Type 0
ArePlaces digests places =
    (bank : Alg) (register : ℕ) → list_any (is_place bank register) places ≡ names digests bank register
