-- Trailing zeros.
use Rattle.std.proofs.Common.{◌≡◌, ℕ, zero, suc, ◌+◌, ◌<◌, List, [], ◌∷◌, ◌++◌, length, take, replicate, slice_index_or}
use Rattle.std.proofs.Common.{refl, ap, sym, ◌∙◌, arith}
use Rattle.std.proofs.lemmas.List.{take_more}
use Rattle.tpm_hmac.specs.Sessions.{trim, before_trimmed}

-- a zero at the end is left out
trim-zero : (bytes : List ℕ) → trim (bytes ++ 0 ∷ []) ≡ trim bytes
trim-zero [] = refl
trim-zero (b ∷ bytes) = ap (before_trimmed b) (trim-zero bytes)

before_some : (b c : ℕ) (rest : List ℕ) → before_trimmed b (c ∷ rest) ≡ b ∷ (c ∷ rest)
before_some zero c rest = refl
before_some (suc b) c rest = refl

before_more : (b : ℕ) (bytes : List ℕ) (c : ℕ) → before_trimmed b (bytes ++ c ∷ []) ≡ b ∷ (bytes ++ c ∷ [])
before_more b [] c = before_some b c []
before_more b (d ∷ bytes) c = before_some b d (bytes ++ c ∷ [])

-- another byte at the end keeps all
trim-other : (bytes : List ℕ) (b : ℕ) → 0 < b → trim (bytes ++ b ∷ []) ≡ bytes ++ b ∷ []
trim-other [] zero some = absurd (omega arith)
trim-other [] (suc b) some = refl
trim-other (c ∷ bytes) b some = ap (before_trimmed c) (trim-other bytes b some) ∙ before_more c bytes b

pub trim-take_zero : (bytes : List ℕ) (n k : ℕ) → n ≡ k + 1 → k < length bytes → slice_index_or bytes k 0 ≡ 0 → trim (take k bytes) ≡ trim (take n bytes)
trim-take_zero bytes n k next within is_zero =
    sym (ap (λ (m : ℕ). trim (take m bytes)) next ∙ ap trim (take_more bytes k 0 within) ∙ ap (λ (b : ℕ). trim (take k bytes ++ b ∷ [])) is_zero
    ∙ trim-zero (take k bytes))

pub trim-take_other : (bytes : List ℕ) (n k : ℕ) → n ≡ k + 1 → k < length bytes → 0 < slice_index_or bytes k 0 → trim (take n bytes) ≡ take n bytes
trim-take_other bytes n k next within other =
    rw (ap (λ (m : ℕ). take m bytes) next ∙ take_more bytes k 0 within) (trim-other (take k bytes) (slice_index_or bytes k 0) other)

pub trim-nothing : (bytes : List ℕ) (n : ℕ) → n ≡ 0 → trim (take n bytes) ≡ take n bytes
trim-nothing bytes n none = rw none refl

-- ---- laws

zeros_before : (b : ℕ) (rest trimmed : List ℕ) (count : ℕ) → rest ≡ trimmed ++ replicate count 0 →
    (n : ℕ) × (b ∷ rest ≡ before_trimmed b trimmed ++ replicate n 0)
zeros_before zero rest [] count is = (suc count, ap (◌∷◌ 0) is)
zeros_before b rest trimmed count is = (count, ap (◌∷◌ b) is)

pub trim-zeros : (bytes : List ℕ) → (count : ℕ) × (bytes ≡ trim bytes ++ replicate count 0)
trim-zeros [] = (0, refl)
trim-zeros (b ∷ bytes) = let behind = trim-zeros bytes in zeros_before b bytes (trim bytes) behind.0 behind.1

last_before : (b : ℕ) (trimmed : List ℕ) → ((front : List ℕ) → trimmed ≡ front ++ 0 ∷ [] → ⊥) → (front : List ℕ) →
    before_trimmed b trimmed ≡ front ++ 0 ∷ [] → ⊥
last_before zero [] none [] is = cc
last_before zero [] none (x ∷ front) is = cc
last_before (suc b) [] none [] is = cc
last_before (suc b) [] none (x ∷ []) is = cc
last_before (suc b) [] none (x ∷ y ∷ front) is = cc
last_before zero (c ∷ trimmed) none [] is = cc
last_before (suc b) (c ∷ trimmed) none [] is = cc
last_before zero (c ∷ trimmed) none (x ∷ front) is = none front cc
last_before (suc b) (c ∷ trimmed) none (x ∷ front) is = none front cc

pub trim-last : (bytes front : List ℕ) → trim bytes ≡ front ++ 0 ∷ [] → ⊥
trim-last [] [] is = cc
trim-last [] (x ∷ front) is = cc
trim-last (b ∷ bytes) front is = last_before b (trim bytes) (trim-last bytes) front is

again_before : (b : ℕ) (trimmed : List ℕ) → trim trimmed ≡ trimmed → trim (before_trimmed b trimmed) ≡ before_trimmed b trimmed
again_before zero [] same = refl
again_before (suc b) [] same = refl
again_before zero (c ∷ trimmed) same = ap (before_trimmed 0) same
again_before (suc b) (c ∷ trimmed) same = ap (before_trimmed (suc b)) same

pub trim-trim : (bytes : List ℕ) → trim (trim bytes) ≡ trim bytes
trim-trim [] = refl
trim-trim (b ∷ bytes) = again_before b (trim bytes) (trim-trim bytes)
