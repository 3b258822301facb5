-- Tables that are searched.
use Rattle.std.proofs.Common.{◌≡◌, List, [], ◌∷◌, map, find, option_map, Some, None, Option, Bool, true, false, cond}
use Rattle.std.proofs.Common.{refl, ap, ◌∙◌, Bor, position, not}
use Rattle.std.proofs.lemmas.List.{length-map}
use Rattle.std.specs.List.{prefix_len}

by : {A B : Type 0} (f : A → B) (b : Bool) (x : A) (rest : Option A) → option_map f (cond b (Some x) rest) ≡ cond b (Some (f x)) (option_map f rest)
by f true x rest = refl
by f false x rest = refl

find-map : {A B : Type 0} (f : A → B) (q : B → Bool) (xs : List A) → option_map f (find (λ x. q (f x)) xs) ≡ find q (map f xs)
find-map f q [] = refl
find-map f q (x ∷ xs) = by f (q (f x)) x _ ∙ ap (cond (q (f x)) (Some (f x))) (find-map f q xs)

both : {A B : Type 0} (f : A → B) (o : Option (Bor A)) → option_map (λ x. f x.now) o ≡ option_map f (option_map (λ x. x.now) o)
both f None = refl
both f (Some x) = refl

-- an entry that was found where it lies, as f sees it
pub found_as : {A B : Type 0} (f : A → B) (q : B → Bool) (table : List A) (o : Option (Bor A)) → option_map (λ x. x.now) o ≡ find (λ x. q (f x)) table
    → option_map (λ x. f x.now) o ≡ find q (map f table)
found_as f q table o is = both f o ∙ ap (option_map f) is ∙ find-map f q table

-- where the first entry is that passes, by the entries as f sees them
prefix_len-map : {A B : Type 0} (f : A → B) (q : B → Bool) (xs : List A) → prefix_len (λ x. q (f x)) xs ≡ prefix_len q (map f xs)
prefix_len-map f q [] = refl
prefix_len-map f q (x ∷ xs) = rw (prefix_len-map f q xs) refl

pub position-map : {A B : Type 0} (xs : List A) (f : A → B) (q : B → Bool) → position (λ x. q (f x)) xs ≡ position q (map f xs)
position-map xs f q = rw (prefix_len-map f (λ y. not (q y)) xs, length-map xs f) refl
