-- A line for each entry of a list.
use Rattle.std.proofs.Common.{◌≡◌, ◌<◌, ◌+◌, ◌++◌, ◌∷◌, ℕ, suc, List, Bool, true, false, cond, filter, Some, None}
use Rattle.std.proofs.Common.{length, drop, sym, ap, subst, ◌∙◌, append_assoc, inl, inr, arith}
use Rattle.std.proofs.Math.Seq.{drop-cons}
use Rattle.std.proofs.lemmas.Option.{get_or_from_slice_get, slice_get_within, slice_get_cases, none-some}
use Rattle.std.specs.List.{slice_get}
use Rattle.tpm_output.specs.Text.{lines_from}

drop_next : {A : Type 0} (xs : List A) (i : ℕ) (x : A) → slice_get xs i ≡ Some x → drop i xs ≡ x ∷ drop (i + 1) xs
drop_next {A} xs i x e =
    let next : suc i ≡ i + 1 = omega arith in
    subst (λ (n : ℕ). drop i xs ≡ x ∷ drop n xs) next
    (drop-cons xs i x (slice_get_within xs i x e) ∙ ap (λ (y : A). y ∷ drop (suc i) xs) (get_or_from_slice_get xs i x x e))

next_line : {A : Type 0} (one : ℕ → A → List ℕ) (xs : List A) (i : ℕ) (x : A) → slice_get xs i ≡ Some x
    → lines_from one (i + 1) (drop i xs) ≡ one (i + 1) x ++ lines_from one (i + 1 + 1) (drop (i + 1) xs)
next_line one xs i x e = ap (lines_from one (i + 1)) (drop_next xs i x e)

-- the lines so far and those of what is left, one line further
pub lines_further : {A : Type 0} (one : ℕ → A → List ℕ) (xs : List A) (i : ℕ) (x : A) (old new all : List ℕ) → slice_get xs i ≡ Some x
    → new ≡ old ++ one (i + 1) x
    → old ++ lines_from one (i + 1) (drop i xs) ≡ all → new ++ lines_from one (i + 1 + 1) (drop (i + 1) xs) ≡ all
lines_further one xs i x old new all e added so_far =
    ap (λ (text : List ℕ). text ++ lines_from one (i + 1 + 1) (drop (i + 1) xs)) added
    ∙ append_assoc old (one (i + 1) x) (lines_from one (i + 1 + 1) (drop (i + 1) xs))
    ∙ ap (λ (text : List ℕ). old ++ text) (sym (next_line one xs i x e))
    ∙ so_far

pub is_within : {A : Type 0} (xs : List A) (i : ℕ) → slice_get xs i ≡ None → i < length xs → ⊥
is_within xs i e lt = elim (slice_get_cases xs i).1 [
  | inl h ↦ none-some h.0 (sym e ∙ h.2)
  | inr h ↦ let past = h.0 in omega (arith, lt, past)
]

-- the same of the entries that pass: one that passes is added
pub filtered_further : {A : Type 0} (one : ℕ → A → List ℕ) (passes : A → Bool) (x : A) (xs : List A) (i : ℕ) (old new all : List ℕ) → passes x ≡ true
    → new ≡ old ++ one i x
    → old ++ lines_from one i (filter passes (x ∷ xs)) ≡ all → new ++ lines_from one (i + 1) (filter passes xs) ≡ all
filtered_further one passes x xs i old new all passing added so_far =
    ap (λ (text : List ℕ). text ++ lines_from one (i + 1) (filter passes xs)) added
    ∙ append_assoc old (one i x) (lines_from one (i + 1) (filter passes xs))
    ∙ ap (λ (b : Bool). old ++ lines_from one i (cond b (x ∷ filter passes xs) (filter passes xs))) (sym passing)
    ∙ so_far

-- and one that doesn't is passed over
pub filtered_over : {A : Type 0} (one : ℕ → A → List ℕ) (passes : A → Bool) (x : A) (xs : List A) (i : ℕ) (old all : List ℕ) → passes x ≡ false
    → old ++ lines_from one i (filter passes (x ∷ xs)) ≡ all → old ++ lines_from one i (filter passes xs) ≡ all
filtered_over one passes x xs i old all failing so_far =
    ap (λ (b : Bool). old ++ lines_from one i (cond b (x ∷ filter passes xs) (filter passes xs))) (sym failing) ∙ so_far
