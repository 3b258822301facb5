-- What `check` prints of registers and of a list of them (this profile).
use Rattle.std.specs.Prelude.{◌≡◌, ◌≢◌, ◌⊎◌, ℕ, ◌+◌, ◌≤◌, Bool, true, false, List, [], ◌∷◌, ◌++◌, length, map, codes}
use Rattle.std.specs.Prelude.{Option, Some, None, option_map}
use Rattle.std.specs.Str.{bytes_eq}
use Rattle.std.specs.List.{AllByRecursion}
use Rattle.std.specs.Io.KnownBytes.{Consumes, IsAtEnd}
use Rattle.tpm_types.specs.declared.alg.Alg.{Alg}
use Rattle.tpm_lists.specs.declared.list_lines.Heading.TheVariants.{NoBank}
use Rattle.tpm_lists.specs.declared.list_lines.Heading.{Heading}
use Rattle.tpm_lists.specs.ListLines.{ListLine, Stated, States, Heads, Passes, Wrong, lines_under, most_line}
use Rattle.tpm_output.specs.declared.form.Form.{Form}
use Rattle.tpm_output.specs.declared.mark.Shape.TheVariants as shape
use Rattle.tpm_output.specs.declared.status.Status.TheVariants.{Done, Refused}
use Rattle.tpm_output.specs.declared.status.Status.{Status}
use Rattle.tpm_output.specs.Form.{told_by}
use Rattle.tpm_output.specs.Marks.{Closes, Mark, Number, Opens, Part, Says, Truth, Word}
use Rattle.tpm_output.specs.Status.{both}
use Rattle.tpm_output.specs.Telling.{says}
use Rattle.tpm_types.specs.Alg.{alg_name}
use Rattle.tpm_output.specs.InputLines.{lines_of, HasNoFeed, AreEnded, most_bytes, most_piece}

-- the values of registers, by bank and number
abbrev pub Values : Type 0
Values = Alg → ℕ → List ℕ

-- ---- what is printed of a list

-- registers by their values, and how what is said of them is told
pub record Beside : Type 0 where
  pub form : Form
  pub value : Values

abbrev pub beside : Form → Values → Beside
beside form value = record { form = form; value = value }

abbrev pub compared_word : Bool → List ℕ
compared_word true = codes "match"
compared_word false = codes "differs"

-- whether a register has the value
abbrev pub words_of_compared : (same : Bool) → Alg → ℕ → List Mark
words_of_compared same bank register =
    map (Says None) (Word (compared_word same) ∷ Word (alg_name bank) ∷ Number register ∷ [])

abbrev pub marks_of_compared : (same : Bool) → Alg → ℕ → List Mark
marks_of_compared same bank register =
    says (codes "bank") (Word (alg_name bank)) ∷ says (codes "register") (Number register)
    ∷ says (codes "match") (Truth same) ∷ []

-- its line, or its object
unfoldable pub compared_text : Form → (same : Bool) → Alg → ℕ → List ℕ
compared_text form same bank register =
    told_by form (words_of_compared same bank register) (marks_of_compared same bank register)

-- that the line of this number states none
abbrev pub words_of_wrong : ℕ → List Mark
words_of_wrong n =
    Says None (Word (codes "line")) ∷ Opens None shape.Text ∷ Part (Number n) ∷ Part (Word (codes ": not a register"))
    ∷ Closes shape.Text ∷ []

abbrev pub marks_of_wrong : ℕ → List Mark
marks_of_wrong n = says (codes "fault") (Word (codes "not a register")) ∷ says (codes "line") (Number n) ∷ []

unfoldable pub not_a_register_text : Form → ℕ → List ℕ
not_a_register_text form n = told_by form (words_of_wrong n) (marks_of_wrong n)

-- what else is wrong, in these words
unfoldable pub fault_told : Form → (fault : List ℕ) → List ℕ
fault_told form fault = told_by form (Says None (Word fault) ∷ []) (says (codes "fault") (Word fault) ∷ [])

abbrev pub status_if : Bool → Status
status_if true = Done
status_if false = Refused

-- what is printed, and the status for it
pub record Verdict : Type 0 where
  pub status : Status
  pub text : List ℕ

abbrev pub printed : Status → List ℕ → Verdict
printed status text = record { status = status; text = text }

abbrev pub refused : List ℕ → Verdict
refused text = printed Refused text

-- what is printed, and the status, or none where the output has ended
pub record Comparison : Type 0 where
  pub text : List ℕ
  pub status : Option Status

abbrev pub is_value : Values → Stated → Bool
is_value value s = bytes_eq (value s.bank s.register) s.value

-- of the line of this number, and those behind it
abbrev pub comparison_of : Beside → ℕ → ListLine → Comparison → Comparison
comparison_of b n (States s) rest = let same = is_value b.value s in
    record {
      text = compared_text b.form same s.bank s.register ++ rest.text;
      status = option_map (both (status_if same)) rest.status;
    }
comparison_of b n (Heads heading) rest = rest
comparison_of b n Passes rest = rest
comparison_of b n Wrong rest = record { text = not_a_register_text b.form n; status = None }

-- whether a line up to this one states a register, so that something is compared
abbrev pub any_behind : (any : Bool) → ListLine → Bool
any_behind any (States s) = true
any_behind any _ = any

-- where no line does
abbrev pub no_register_text : Form → (any : Bool) → List ℕ
no_register_text form true = []
no_register_text form false = fault_told form (codes "no register")

-- Of these lines the first has number n, and any before it states a register.
abbrev pub comparison_from : Beside → ℕ → (any : Bool) → List ListLine → Comparison
comparison_from b n any [] = record { text = no_register_text b.form any; status = Some (status_if any) }
comparison_from b n any (first ∷ others) =
    comparison_of b n first (comparison_from b (n + 1) (any_behind any first) others)

-- of a whole list, and of none, which says nothing
abbrev pub comparison : Beside → List ℕ → Comparison
comparison b bytes = comparison_from b 1 false (lines_under NoBank (lines_of bytes))

abbrev pub compared : Beside → Option (List ℕ) → Comparison
compared b None = record { text = []; status = Some Done }
compared b (Some bytes) = comparison b bytes

-- ---- what is read of a list

-- None of these lines is wrong, of which the first is under this heading.
abbrev pub AreRegisters : Heading → List ℕ → Type 0
AreRegisters heading lines = AllByRecursion (λ line. line ≢ Wrong) (lines_under heading (lines_of lines))

-- No line that has ended is wrong, and the one behind them is not too long.
pub record IsStated (bytes : List ℕ) : Type 0 where
  pub lines : List ℕ
  pub line : List ℕ
  pub are : bytes ≡ lines ++ line
  pub ended : AreEnded lines
  pub registers : AreRegisters NoBank lines
  pub short : HasNoFeed line × (length line ≤ most_line)

-- Of these bytes no line is wrong but in the last of them, no more than are asked for at a time.
pub record IsStatedBefore (bytes : List ℕ) : Type 0 where
  pub before : List ℕ
  pub last : List ℕ
  pub are : bytes ≡ before ++ last
  pub stated : IsStated before
  pub most : length last ≤ most_piece

-- These bytes were read, not too many; and the list has ended, or a line of the last of them is wrong, and whatever
-- comes makes no difference.
pub record ReadsList (b : Beside) (old new : Option (List ℕ)) (bytes : List ℕ) : Type 0 where
  pub read : Consumes old new bytes
  pub most : length bytes ≤ most_bytes
  pub whole : IsAtEnd new
      ⊎ ((comparison b bytes).status ≡ None)
      × IsStatedBefore bytes
      × ((more : List ℕ) → comparison b (bytes ++ more) ≡ comparison b bytes)

-- One byte more was read than a list may have, and up to it no line that has ended is wrong.
pub record ReadsTooMuchList (old new : Option (List ℕ)) : Type 0 where
  pub bytes : List ℕ
  pub more : List ℕ
  pub read : Consumes old new (bytes ++ more)
  pub most : length bytes ≡ most_bytes
  pub one : length more ≡ 1
  pub stated : IsStated bytes
