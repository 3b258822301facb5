-- Names by their text (this profile).
use Rattle.std.specs.Prelude.{ℕ, Bool, false, if◌then◌else◌, List, [], ◌∷◌, codes, Option, find, map}
use Rattle.std.specs.Char.{is_ascii_alphabetic, to_ascii_lowercase}
use Rattle.std.specs.Str.{bytes_eq}
use Rattle.tpm_types.specs.declared.command_code.CommandCode.{CommandCode}
use Rattle.tpm_types.specs.CommandCodes.{all_commands, code_name}

-- two words, in any letter case
abbrev pub same_word : List ℕ → List ℕ → Bool
same_word word other = bytes_eq (map to_ascii_lowercase word) (map to_ascii_lowercase other)

-- what stands behind `TPM2_`, or all of a name that doesn't begin with it
abbrev pub word_in : List ℕ → List ℕ
word_in (t ∷ p ∷ m ∷ two ∷ line ∷ word) =
    if same_word (t ∷ p ∷ m ∷ two ∷ line ∷ []) (codes "TPM2_") then word
    else t ∷ p ∷ m ∷ two ∷ line ∷ word
word_in name = name

-- the command of the profile with this name
abbrev pub command_of_name : List ℕ → Option CommandCode
command_of_name name = find (λ code. same_word (code_name code) (word_in name)) all_commands

-- The names of response codes and of the kinds of faults begin with a letter.
abbrev pub is_name : List ℕ → Bool
is_name [] = false
is_name (first ∷ rest) = is_ascii_alphabetic first
