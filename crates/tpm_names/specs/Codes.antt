-- The names of response codes, and what they say (Part 2, 6.6).
use Rattle.std.specs.Prelude.{ℕ, ◌/◌, ◌^◌, ◌==◌, nat_lt, bit_and, bit_or, List, [], ◌++◌, take, drop, codes}
use Rattle.std.specs.Prelude.{Option}
use Rattle.std.specs.Prelude.{Some, None, option_map, if◌then◌else◌}
use Rattle.std.specs.Fmt.{decimal}
use Rattle.tpm_names.specs.declared.codes.TheConstants.{WITHOUT_NUMBER, WITH_NUMBER}
use Rattle.tpm_names.specs.Meanings.{Meaning, meaning_in, meaning_named, same_word, table_as}

-- ---- the codes (Part 2, 6.6.3)

-- codes without a number: success, those of TPM 1.2, errors and warnings
abbrev pub format_zero : List Meaning
format_zero = table_as WITHOUT_NUMBER

-- codes with the number of a handle, session or parameter: their lowest six bits
abbrev pub format_one : List Meaning
format_one = table_as WITH_NUMBER

-- ---- the format of a code (Part 2, 6.6.2)

-- Bit 7 tells the two formats. A code has twelve bits.
abbrev pub meaning_of : ℕ → Option Meaning
meaning_of code =
    if bit_and code 0x80 == 0 then meaning_in format_zero code
    else if nat_lt code 0x1000 then meaning_in format_one (bit_and code 0x3F)
    else None

-- what stands behind `TPM_RC_`, in any letter case, or all of a name that doesn't begin with it
abbrev pub name_in : List ℕ → List ℕ
name_in name = if same_word (take 7 name) (codes "TPM_RC_") then drop 7 name else name

-- the code of this name, of a format-one code that without a number (6.6.2)
abbrev pub named_code : (zero one : Option Meaning) → Option ℕ
named_code (Some m) one = Some m.number
named_code None one = option_map (λ m. bit_or 0x80 m.number) one

abbrev pub code_of_name : List ℕ → Option ℕ
code_of_name name =
    named_code (meaning_named format_zero (name_in name)) (meaning_named format_one (name_in name))

-- bit 6 is set for a parameter, and else bit 11 for a session
abbrev pub subject_of : ℕ → List ℕ
subject_of code = if bit_and code 0x40 == 0
    then if bit_and code 0x800 == 0 then codes "handle" else codes "session" else codes "parameter"

-- bits 8 to 11 for a parameter, and else bits 8 to 10
abbrev pub subject_number : ℕ → ℕ
subject_number code = if bit_and code 0x40 == 0 then bit_and (code / 2 ^ 8) 7 else bit_and (code / 2 ^ 8) 15

-- ---- its name

-- what it is about, if it has a number
abbrev pub subject_text : ℕ → List ℕ
subject_text code =
    if bit_and code 0x80 == 0 then []
    else if subject_number code == 0 then []
    else codes " for " ++ (subject_of code ++ (codes " " ++ decimal (subject_number code)))

-- TPM_RC, and what the code is about
abbrev pub code_name : ℕ → Meaning → List ℕ
code_name code m = codes "TPM_RC_" ++ (m.name ++ subject_text code)

-- the name of a code that is listed
abbrev pub name_of_code : ℕ → Option (List ℕ)
name_of_code code = option_map (code_name code) (meaning_of code)
