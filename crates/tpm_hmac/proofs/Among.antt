-- What stands in a part of a list stands in the list.
use Rattle.std.proofs.Common.{List, [], ◌∷◌, ◌++◌, inl, inr}
use Rattle.tpm_hmac.specs.Among.{IsAmong}

pub among_later : {A : Type 0} (m : A) (xs ys : List A) → IsAmong m ys → IsAmong m (xs ++ ys)
among_later m [] ys i = i
among_later m (x ∷ xs) ys i = inr (among_later m xs ys i)

pub among_front : {A : Type 0} (m : A) (xs ys : List A) → IsAmong m xs → IsAmong m (xs ++ ys)
among_front m [] ys i = absurd i
among_front m (x ∷ xs) ys (inl e) = inl e
among_front m (x ∷ xs) ys (inr i) = inr (among_front m xs ys i)
