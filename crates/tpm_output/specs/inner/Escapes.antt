-- The text of a character of one unit or two.
use Rattle.std.specs.Prelude.{ℕ, Bool, true, not, List, ◌++◌, Option, Some, None}
use Rattle.tpm_output.specs.Utf16.{alone, is_half}
use Rattle.tpm_output.specs.Escapes.{escaped}

-- a unit that is in no pair, or both halves of one
abbrev pub character_text : ℕ → Option ℕ → List ℕ
character_text unit None = escaped (alone unit)
character_text unit (Some second) = escaped unit ++ escaped second

-- It is no half of a pair, or both are.
abbrev pub is_character : ℕ → Option ℕ → Bool
is_character unit None = not (is_half unit)
is_character unit (Some second) = true
