-- What is printed of a log beside a list of allowed digests (this profile).
use Rattle.std.specs.Prelude.{ℕ, Bool, true, false, not, List, [], ◌∷◌, codes, find, flat_map, length, map, ◌==◌}
use Rattle.std.specs.Prelude.{◌&&◌, Option, Some, None, option_map, if◌then◌else◌}
use Rattle.std.specs.List.{list_any}
use Rattle.std.specs.Option.{option_or}
use Rattle.tpm_types.specs.declared.alg.Alg.{Alg}
use Rattle.tpm_types.specs.declared.tpms.Selection.{Selection}
use Rattle.tpm_types.specs.Alg.{alg_name, all_algs}
use Rattle.tpm_quote.specs.declared.attest.NotSelected.{NotSelected}
use Rattle.tpm_pcr.specs.Registers.{all_registers}
use Rattle.tpm_quote.specs.Attests.{is_among, register_of}
use Rattle.tpm_vouched.specs.declared.allowed.AllowedDigest.{AllowedDigest}
use Rattle.tpm_vouched.specs.Allowed.{names}
use Rattle.tpm_output.specs.declared.form.Form.{Form}
use Rattle.tpm_output.specs.Form.{told_by}
use Rattle.tpm_output.specs.Marks.{Bytes, Mark, Number, Says as SaysOf, Truth, Word}
use Rattle.tpm_output.specs.Telling.{says}
use Rattle.tpm_event_marks.specs.Names.{type_value}
use Rattle.tpm_check.specs.CheckAttest.{marks_of_lacks}
use Rattle.tpm_check.specs.CheckJson.{rendered}
use Rattle.tpm_check.specs.Compare.{Verdict, fault_told, printed, refused, status_if}
use Rattle.tpm_check.specs.FirstOf.{first_of}
use Rattle.tpm_lists.specs.Extensions.{Extension, is_of}

-- ---- a digest that isn't on the list

-- the register, how many bytes of the log precede the record, and the record's type
abbrev pub words_of_unknown : Extension → List Mark
words_of_unknown x =
    map (SaysOf None) (
    Word (codes "unknown") ∷ Word (alg_name x.bank) ∷ Number x.register ∷ Word (codes "at") ∷ Number x.at
    ∷ Bytes x.digest ∷ type_value x.kind ∷ [])

abbrev pub marks_of_unknown : Extension → List Mark
marks_of_unknown x =
    says (codes "bank") (Word (alg_name x.bank)) ∷ says (codes "register") (Number x.register)
    ∷ says (codes "allowed") (Truth false) ∷ says (codes "at") (Number x.at)
    ∷ says (codes "digest") (Bytes x.digest) ∷ says (codes "type") (type_value x.kind) ∷ []

abbrev pub unknown_text : Form → Extension → List ℕ
unknown_text form x = told_by form (words_of_unknown x) (marks_of_unknown x)

-- where it is of this register of the bank
abbrev pub unknown_if : Form → Alg → (register : ℕ) → Extension → List ℕ
unknown_if form bank register x = if is_of bank register x then unknown_text form x else []

-- ---- a register

-- that all digests are on the list
abbrev pub words_of_allowed : Alg → (register : ℕ) → List Mark
words_of_allowed bank register =
    map (SaysOf None) (Word (codes "allowed") ∷ Word (alg_name bank) ∷ Number register ∷ [])

abbrev pub marks_of_allowed : Alg → (register : ℕ) → List Mark
marks_of_allowed bank register =
    says (codes "bank") (Word (alg_name bank)) ∷ says (codes "register") (Number register)
    ∷ says (codes "allowed") (Truth true) ∷ []

abbrev pub allowed_text : Form → Alg → (register : ℕ) → List ℕ
allowed_text form bank register = told_by form (words_of_allowed bank register) (marks_of_allowed bank register)

-- a register that the list names, by all that aren't on it
abbrev pub register_told : Form → List AllowedDigest → List Extension → Alg → (register : ℕ) → List ℕ
register_told form list found bank register =
    if not (names list bank register) then []
    else if list_any (is_of bank register) found then flat_map (unknown_if form bank register) found
    else allowed_text form bank register

unfoldable pub bank_told : Form → List AllowedDigest → List Extension → Alg → List ℕ
bank_told form list found bank = first_of (register_told form list found bank) 24

abbrev pub banks_told : Form → List AllowedDigest → List Extension → List ℕ
banks_told form list found = flat_map (bank_told form list found) all_algs

-- ---- a list

-- The list names the register of the bank, and it isn't selected.
abbrev pub is_lacking : List AllowedDigest → List Selection → Alg → (register : ℕ) → Bool
is_lacking list quoted bank register = names list bank register && not (is_among quoted (register_of bank register))

-- the first such register of a bank, and of these banks
abbrev pub first_lacking_of : List AllowedDigest → List Selection → Alg → Option NotSelected
first_lacking_of list quoted bank = option_map (register_of bank) (find (is_lacking list quoted bank) all_registers)

abbrev pub first_lacking : List AllowedDigest → List Selection → (banks : List Alg) → Option NotSelected
first_lacking list quoted [] = None
first_lacking list quoted (bank ∷ banks) =
    option_or (first_lacking_of list quoted bank) (first_lacking list quoted banks)

-- by those that aren't on it: all was done where there is none
abbrev pub on_unknown : Form → List AllowedDigest → List Extension → Verdict
on_unknown form list found = printed (status_if (length found == 0)) (banks_told form list found)

-- a register that the list names and that isn't selected, or else that
abbrev pub on_lacking : Form → Option NotSelected → Verdict → Verdict
on_lacking form (Some r) v = refused (rendered form (marks_of_lacks form r))
on_lacking form None v = v

-- a list without a digest, and any other
abbrev pub on_found : Form → List AllowedDigest → List Selection → List Extension → Verdict
on_found form list quoted found =
    if length list == 0 then refused (fault_told form (codes "no register"))
    else on_lacking form (first_lacking list quoted all_algs) (on_unknown form list found)
