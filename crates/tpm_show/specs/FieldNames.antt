-- The names that Part 2 gives to numbers, by the types of the fields that they stand in (this profile).
use Rattle.std.specs.Prelude.{ℕ, ◌+◌, ◌*◌, ◌||◌, Bool, if◌then◌else◌, List, [], ◌∷◌, ◌++◌, codes as text}
use Rattle.std.specs.Prelude.{Option, Some, None, option_map}
use Rattle.std.specs.Str.{bytes_eq}
use Rattle.tpm_output.specs.Named.{Named, named_in, table_as}
use Rattle.tpm_show.specs.declared.field_names.TheConstants.{ALGORITHMS, SESSION_TYPES, STARTUP_TYPES}
use Rattle.tpm_show.specs.CommandNames.{command_of}
use Rattle.tpm_show.specs.HandleNames.{handle_named}

-- the types of algorithms
abbrev pub is_algorithm : (type : List ℕ) → Bool
is_algorithm type =
    bytes_eq type (text "TPMI_ALG_HASH") || bytes_eq type (text "TPMI_ALG_SYM") || bytes_eq type (text "TPMU_SYM_MODE")

-- the table for a type, of TPM_ALG_ID (6.3), TPM_SU (6.10) or TPM_SE (6.11), which is empty for any other
unfoldable pub names_for : (type : List ℕ) → List Named
names_for type =
    if is_algorithm type then table_as ALGORITHMS
    else if bytes_eq type (text "TPM_SU") then table_as STARTUP_TYPES
    else if bytes_eq type (text "TPM_SE") then table_as SESSION_TYPES
    else []

-- the types of handles
abbrev pub is_handle : (type : List ℕ) → Bool
is_handle type = bytes_eq type (text "TPMI_DH_CONTEXT") || bytes_eq type (text "TPMI_RH_NV_INDEX")

-- ---- the name of a field's number

-- the number that one, two or four bytes spell, the most significant first
abbrev pub number_in : List ℕ → Option ℕ
number_in (n ∷ []) = Some n
number_in (high ∷ low ∷ []) = Some (low + 256 * high)
number_in (a ∷ b ∷ c ∷ d ∷ []) = Some (d + 256 * (c + 256 * (b + 256 * a)))
number_in _ = None

-- of this type: a handle's name, or that of its table
unfoldable pub named_of : (type : List ℕ) → ℕ → Option (List ℕ)
named_of type n = if is_handle type then handle_named n else named_in (names_for type) n

-- that of a command of the library (TPM_CC, 6.5.2), or of its type
abbrev pub number_name : (type : List ℕ) → Option ℕ → Option (List ℕ)
number_name type None = None
number_name type (Some n) =
    if bytes_eq type (text "TPM_CC") then option_map (λ c. text "TPM_CC_" ++ c.name) (command_of n) else named_of type n

-- the name that a field of this type and these bytes has, where it has one
unfoldable pub value_name : (type bytes : List ℕ) → Option (List ℕ)
value_name type bytes = number_name type (number_in bytes)
