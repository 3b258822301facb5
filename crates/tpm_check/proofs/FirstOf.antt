-- What is said of the first registers, one more; and the first that is sought.
use Rattle.std.proofs.Common.{◌≡◌, ◌<◌, ℕ, ◌+◌, ◌++◌, Bool, true, false, List, [], ◌∷◌, Option, Some, None, append_assoc, flat_map}
use Rattle.std.proofs.Common.{get_or, length, take, drop, refl, ap, sym, ◌∙◌, arith}
use Rattle.std.proofs.lemmas.List.Folds.{find-append}
use Rattle.std.proofs.lemmas.List.Concat.{flat_map-append}
use Rattle.std.proofs.lemmas.List.{append-nil, take-append-drop, take_more}
use Rattle.std.specs.Option.{option_or}
use Rattle.std.specs.Prelude.{find, suc}
use Rattle.tpm_check.specs.FirstOf.{first_of}

pub one_more : (one : ℕ → List ℕ) (n : ℕ) → first_of one (n + 1) ≡ first_of one n ++ one n
one_more one n = let e : n + 1 ≡ suc n = omega arith in rw e refl

-- one element more
pub taken_more : {X : Type 0} (xs : List X) (i : ℕ) (x : X) → i < length xs → x ≡ get_or xs i x → take (i + 1) xs ≡ take i xs ++ x ∷ []
taken_more {X = X} xs i x h is = take_more xs i x h ∙ ap (λ (y : X). take i xs ++ y ∷ []) (sym is)

pub flat_map_more : {X : Type 0} (f : X → List ℕ) (xs : List X) (i : ℕ) (x : X) → i < length xs → x ≡ get_or xs i x
    → flat_map f (take (i + 1) xs) ≡ flat_map f (take i xs) ++ f x
flat_map_more f xs i x h is =
    ap (flat_map f) (taken_more xs i x h is) ∙ flat_map-append f (take i xs) (x ∷ [])
    ∙ ap (λ (t : List ℕ). flat_map f (take i xs) ++ t) (append-nil (f x))

-- ---- the first number that is sought

-- none so far, and one more that isn't sought
pub none_more : (p : ℕ → Bool) (all : List ℕ) (q : ℕ) → take (q + 1) all ≡ take q all ++ q ∷ [] → find p (take q all) ≡ None → p q ≡ false
    → find p (take (q + 1) all) ≡ None
none_more p all q more none other =
    let one : find p (q ∷ []) ≡ None = rw other refl in
    ap (find p) more ∙ find-append p (take q all) (q ∷ []) ∙ ap (λ (o : Option ℕ). option_or o (find p (q ∷ []))) none ∙ one

-- none so far, and then one
pub found_at : (p : ℕ → Bool) (all : List ℕ) (q : ℕ) → take (q + 1) all ≡ take q all ++ q ∷ [] → find p (take q all) ≡ None → p q ≡ true
    → find p all ≡ Some q
found_at p all q more none is =
    let rest = drop (q + 1) all in
    let one : find p (q ∷ rest) ≡ Some q = rw is refl in
    let whole : all ≡ take q all ++ (q ∷ rest) =
    sym (take-append-drop (q + 1) all) ∙ ap (λ (qs : List ℕ). qs ++ rest) more ∙ append_assoc (take q all) (q ∷ []) rest in
    ap (find p) whole ∙ find-append p (take q all) (q ∷ rest) ∙ ap (λ (o : Option ℕ). option_or o (find p (q ∷ rest))) none ∙ one
