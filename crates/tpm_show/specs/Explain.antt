-- What `explain` prints (this profile), of the response codes of Part 2, 6.6, and of those of the software above a TPM.
use Rattle.std.specs.Prelude.{ℕ, bit_and, List, [], ◌∷◌, ◌++◌, codes, Option, Some, None, option_map}
use Rattle.std.specs.Option.{option_or}
use Rattle.tpm_show.specs.declared.layers.Codes.TheVariants.{Base, BaseOrTpm, Tpm}
use Rattle.tpm_show.specs.declared.layers.Codes.{Codes}
use Rattle.tpm_show.specs.Layers.{codes_of, layer_of, base_of}
use Rattle.tpm_names.specs.Codes.{meaning_of, subject_text}
use Rattle.tpm_names.specs.Meanings.{Meaning}
use Rattle.tpm_output.specs.declared.status.Status.TheVariants.{Done, Refused}
use Rattle.tpm_output.specs.declared.status.Status.{Status}
use Rattle.tpm_output.specs.Text.{line}

-- ---- what is printed

unfoldable pub meaning_line : ℕ → Meaning → List ℕ
meaning_line code m = line ((codes "TPM_RC_" ++ (m.name ++ (subject_text code ++ codes ":"))) ∷ m.words ∷ [])

unfoldable pub base_line : Meaning → List ℕ
base_line m = line ((codes "TSS2_BASE_RC_" ++ (m.name ++ codes ":")) ∷ m.words ∷ [])

unfoldable pub layer_line : Meaning → List ℕ
layer_line l = line ((codes "TSS2_" ++ (l.name ++ codes "_RC_LAYER:")) ∷ l.words ∷ [])

abbrev pub unknown_line : List ℕ
unknown_line = line (codes "unknown" ∷ codes "response" ∷ codes "code" ∷ [])

-- the line of a TPM's code that is listed, and of a base code
abbrev pub tpm_line : ℕ → Option (List ℕ)
tpm_line code = option_map (meaning_line code) (meaning_of code)

abbrev pub base_code_line : ℕ → Option (List ℕ)
base_code_line code = option_map base_line (base_of code)

-- of a code among these
abbrev pub line_among : Codes → ℕ → Option (List ℕ)
line_among Base code = base_code_line code
line_among BaseOrTpm code = option_or (base_code_line code) (tpm_line code)
line_among Tpm code = tpm_line code

abbrev pub line_or_unknown : Option (List ℕ) → List ℕ
line_or_unknown (Some line) = line
line_or_unknown None = unknown_line

abbrev pub status_of_line : Option (List ℕ) → Status
status_of_line (Some line) = Done
status_of_line None = Refused

-- a line for the layer, if it is listed, and one for the code within it
abbrev pub layer_text : Option Meaning → List ℕ
layer_text None = []
layer_text (Some l) = layer_line l

abbrev pub code_line : Option Meaning → ℕ → Option (List ℕ)
code_line None code = tpm_line code
code_line (Some l) code = line_among (codes_of l.number) (bit_and code 0xFFFF)

abbrev pub explanation : ℕ → List ℕ
explanation code = layer_text (layer_of code) ++ line_or_unknown (code_line (layer_of code) code)

abbrev pub explain_status : ℕ → Status
explain_status code = status_of_line (code_line (layer_of code) code)
