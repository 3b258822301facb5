-- Pieces that are told one after the other.
use Rattle.std.proofs.Common.{◌≡◌, ◌+◌, ◌++◌, ◌∷◌, ℕ, suc, List, Bool, true, false, cond, filter, flat_map, Some}
use Rattle.std.proofs.Common.{drop, sym, ap, subst, ◌∙◌, append_assoc, arith}
use Rattle.std.proofs.Math.Seq.{drop-cons}
use Rattle.std.proofs.lemmas.Grind.{flat_map-append}
use Rattle.std.proofs.lemmas.List.{append-nil}
use Rattle.std.proofs.lemmas.Option.{get_or_from_slice_get, slice_get_within}
use Rattle.std.specs.List.{slice_get}
use Rattle.tpm_show.specs.Pieces.{Piece}
use Rattle.tpm_show.specs.Sessions.{ShownSession, session_told, sessions_from}

-- what a function that tells pieces needs of lists
pub ruleset pieces = (append-nil, append_assoc, flat_map-append)

-- what is told of one further, and of what is left behind it
one_further : {M : Type 0} (marks : Piece → List M) (one left : List Piece) (old new all : List M)
    → new ≡ old ++ flat_map marks one → old ++ flat_map marks (one ++ left) ≡ all → new ++ flat_map marks left ≡ all
one_further {M} marks one left old new all added so_far =
    ap (λ (told : List M). told ++ flat_map marks left) added
    ∙ append_assoc old (flat_map marks one) (flat_map marks left)
    ∙ ap (λ (told : List M). old ++ told) (sym (flat_map-append marks one left))
    ∙ so_far

-- ---- sessions

drop_next : (xs : List ShownSession) (i : ℕ) (x : ShownSession) → slice_get xs i ≡ Some x → drop i xs ≡ x ∷ drop (i + 1) xs
drop_next xs i x e =
    let next : suc i ≡ i + 1 = omega arith in
    subst (λ (n : ℕ). drop i xs ≡ x ∷ drop n xs) next
    (drop-cons xs i x (slice_get_within xs i x e) ∙ ap (λ (y : ShownSession). y ∷ drop (suc i) xs) (get_or_from_slice_get xs i x x e))

-- what is told so far and of what is left, one session further
pub sessions_further : {M : Type 0} (marks : Piece → List M) (xs : List ShownSession) (i : ℕ) (x : ShownSession) (old new all : List M)
    → slice_get xs i ≡ Some x → new ≡ old ++ flat_map marks (session_told (i + 1) x)
    → old ++ flat_map marks (sessions_from (i + 1) (drop i xs)) ≡ all → new ++ flat_map marks (sessions_from (i + 1 + 1) (drop (i + 1) xs)) ≡ all
sessions_further {M} marks xs i x old new all e added so_far =
    one_further marks (session_told (i + 1) x) (sessions_from (i + 1 + 1) (drop (i + 1) xs)) old new all added
    (ap (λ (left : List ShownSession). old ++ flat_map marks (sessions_from (i + 1) left)) (sym (drop_next xs i x e)) ∙ so_far)

-- ---- entries that pass

-- one that passes is told
pub passing_further : {A M : Type 0} (marks : Piece → List M) (part : A → List Piece) (passes : A → Bool) (x : A) (xs : List A)
    (old new all : List M) → passes x ≡ true → new ≡ old ++ flat_map marks (part x)
    → old ++ flat_map marks (flat_map part (filter passes (x ∷ xs))) ≡ all → new ++ flat_map marks (flat_map part (filter passes xs)) ≡ all
passing_further {A} {M} marks part passes x xs old new all passing added so_far =
    one_further marks (part x) (flat_map part (filter passes xs)) old new all added
    (ap (λ (b : Bool). old ++ flat_map marks (flat_map part (cond b (x ∷ filter passes xs) (filter passes xs)))) (sym passing) ∙ so_far)

-- and one that doesn't is passed over
pub passing_over : {A M : Type 0} (marks : Piece → List M) (part : A → List Piece) (passes : A → Bool) (x : A) (xs : List A) (old all : List M)
    → passes x ≡ false → old ++ flat_map marks (flat_map part (filter passes (x ∷ xs))) ≡ all
    → old ++ flat_map marks (flat_map part (filter passes xs)) ≡ all
passing_over marks part passes x xs old all failing so_far =
    ap (λ (b : Bool). old ++ flat_map marks (flat_map part (cond b (x ∷ filter passes xs) (filter passes xs)))) (sym failing) ∙ so_far
