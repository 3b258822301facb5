-- The program's lines (this profile).
use Rattle.std.specs.Prelude.{ℕ, ◌+◌, List, [], ◌∷◌, ◌++◌, codes, Option, Some, None, Result, Ok, Err}
use Rattle.std.specs.Fmt.{decimal}
use Rattle.hex.specs.Hex.{decode_of, encode_lower}
use Rattle.hex.specs.declared.error.FromHexError.{FromHexError}
use Rattle.tpm_wire.specs.declared.refusal.Refusal.{Refusal}
use Rattle.tpm_output.specs.Numbers.{hexadecimal}

-- words with a space between them, and a line feed
abbrev pub line : List (List ℕ) → List ℕ
line [] = codes "\n"
line (word ∷ []) = word ++ codes "\n"
line (word ∷ next ∷ words) = word ++ (codes " " ++ line (next ∷ words))

-- a line for each entry, counted from this number
abbrev pub lines_from : {A : Type 0} → (ℕ → A → List ℕ) → ℕ → List A → List ℕ
lines_from one i [] = []
lines_from one i (x ∷ xs) = one i x ++ lines_from one (i + 1) xs

abbrev pub value_of : Result (List ℕ) FromHexError → Option (List ℕ)
value_of (Ok bytes) = Some bytes
value_of (Err fault) = None

-- the bytes of hexadecimal digits, two to a byte and in either case, where a text is that
abbrev pub bytes_in : List ℕ → Option (List ℕ)
bytes_in text = value_of (decode_of text)

-- bytes in hexadecimal, lower case, and no bytes as `-`
abbrev pub bytes_text : List ℕ → List ℕ
bytes_text [] = codes "-"
bytes_text (byte ∷ bytes) = encode_lower (byte ∷ bytes)

unfoldable pub bytes_line : List ℕ → List ℕ
bytes_line bytes = line (bytes_text bytes ∷ [])

-- ---- refusals

unfoldable pub refusal_line : Refusal → List ℕ
refusal_line refusal = line (codes "refused" ∷ hexadecimal 3 refusal.code ∷ codes "at" ∷ decimal refusal.at ∷ [])

abbrev pub not_hexadecimal_line : List ℕ
not_hexadecimal_line = line (codes "not" ∷ codes "hexadecimal" ∷ [])
