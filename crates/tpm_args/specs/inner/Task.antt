-- Words that ask for no task.
use Rattle.std.specs.Prelude.{◌≡◌, List, [], ◌∷◌, Option, None, codes, false}
use Rattle.clap.specs.Words.{Text}
use Rattle.tpm_args.specs.declared.task.Task.{Task}
use Rattle.tpm_args.specs.Task.{AsksWith, is_given}

-- None of these words is given.
abbrev pub HasNone : (Text → Option Text) → (names : List Text) → Type 0
HasNone value [] = Unit {0}
HasNone value (name ∷ names) = (value name ≡ None) × HasNone value names

-- No word is given that is of a buffer or of a capture alone.
abbrev pub IsPlain : (Text → Option Text) → Type 0
IsPlain value =
    HasNone value (codes "HEX" ∷ codes "file" ∷ codes "reply" ∷ []) × (is_given (value (codes "binary")) ≡ false)

-- There is no such task.
abbrev pub AsksNothingWith : Text → (Text → Option Text) → Type 0
AsksNothingWith name value = (task : Task) → AsksWith name value task → ⊥
