-- What two parts add one after the other.
use Rattle.std.proofs.Common.{ℕ, List, ◌++◌, Option, Some, None, ap, ◌∙◌, append_assoc}
use Rattle.std.specs.Io.KnownBytes.{Appends}
use Rattle.tpm_output.specs.InputLines.{AddedTo}

-- What two parts add is added by both.
abbrev pub Joins : (A B C : List ℕ → Type 0) → Type 0
Joins A B C = (xs ys : List ℕ) → A xs → B ys → C (xs ++ ys)

pub joins_texts : (a b c : List ℕ) → Joins (AddedTo a b) (AddedTo b c) (AddedTo a c)
joins_texts a b c xs ys f g = g ∙ ap (λ (text : List ℕ). text ++ ys) f ∙ append_assoc a xs ys

pub joins_appends : (a b c : Option (List ℕ)) → Joins (Appends a b) (Appends b c) (Appends a c)
joins_appends None b c xs ys f g = tt
joins_appends (Some l) None c xs ys f g = absurd f
joins_appends (Some l) (Some m) None xs ys f g = absurd g
joins_appends (Some l) (Some m) (Some n) xs ys f g = g ∙ ap (λ (text : List ℕ). text ++ ys) f ∙ append_assoc l xs ys
