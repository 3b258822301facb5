-- The spelling of a value.
use Rattle.std.specs.Prelude.{◌≡◌, ℕ, zero, suc, ◌-◌, ◌<◌, ◌^◌, ◌⊎◌, Bool, true, List, [], ◌∷◌, ◌++◌, length, Some, Ok}
use Rattle.std.specs.Int.{bytes_high_first}
use Rattle.tpm_wire.specs.Rules.{Rules}
use Rattle.tpm_wire.specs.Layout.Form.{done, number, text, field, area, list, by_left, marked}
use Rattle.tpm_wire.specs.Layout.{Form}

-- the spellings of the entries, joined
abbrev pub joined : {A : Type 0} → (List A → A → List ℕ) → List A → List A → List ℕ
joined spell before [] = []
joined spell before (x ∷ xs) = spell before x ++ joined spell (before ++ x ∷ []) xs

abbrev pub spelling : {r : Rules} {A : Type 0} → Form r A → A → List ℕ
spelling (done y) x = []
spelling (number width meaning number_for fault) x = bytes_high_first width (number_for x)
spelling (text n judge text_for) x = text_for x
spelling (field get l f) x = spelling l (get x) ++ spelling (f (get x)) x
spelling (area n fault l) x = spelling l x
spelling (list most stops l) xs = joined (λ before. spelling (l before)) [] xs
spelling (by_left f) x = spelling (f 0) x
spelling (marked n l) x = spelling l x

-- Each entry has a spelling, and there are as many as the layout asks for.
abbrev pub FitEach : {A : Type 0} → (ℕ → List A → A → Type 0) → (List A → A → List ℕ) → Bool → ℕ → ℕ → List A → List A
    → Type 0
FitEach fits spell stops most left before [] = (most ≡ 0) ⊎ ((stops ≡ true) × (left ≡ 0))
FitEach fits spell stops zero left before (x ∷ xs) = ⊥
FitEach fits spell stops (suc most) left before (x ∷ xs) =
    (0 < length (spell before x))
    × fits left before x
    × FitEach fits spell stops most (left - length (spell before x)) (before ++ x ∷ []) xs

-- The value has a spelling in an area in which so many bytes are left. Where a layout is
-- by what is left, only one spelling is meant.
abbrev pub Fits : {r : Rules} {A : Type 0} → ℕ → Form r A → A → Type 0
Fits left (done y) x = x ≡ y
Fits left (number width meaning number_for fault) x =
    (number_for x < 256 ^ width) × (meaning (left - width) (number_for x) ≡ Some x)
Fits left (text n judge text_for) x = (length (text_for x) ≡ n) × (judge (text_for x) ≡ Ok x)
Fits left (field get l f) x = Fits left l (get x) × Fits (left - length (spelling l (get x))) (f (get x)) x
Fits left (area n fault l) x = (length (spelling l x) ≡ n) × Fits n l x
Fits left (list most stops l) xs =
    FitEach (λ k before. Fits k (l before)) (λ before. spelling (l before)) stops most left [] xs
Fits left (by_left f) x = (spelling (f left) x ≡ spelling (f 0) x) × Fits left (f left) x
Fits left (marked n l) x = Fits left l x

-- a value that lies in bytes, in one at least, in whatever area
pub record IsSpelled {r : Rules} {A : Type 0} (l : Form r A) (x : A) : Type 0 where
  pub fits : (left : ℕ) → Fits left l x
  pub some : 0 < length (spelling l x)

-- the spellings of entries of one layout, joined
abbrev pub joined_all : {r : Rules} {A : Type 0} → Form r A → List A → List ℕ
joined_all l xs = joined (λ _. spelling l) [] xs
