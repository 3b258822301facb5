-- Registers of banks by their text, as tpm2-tools spell a selection: sha1:7+sha256:0,1,2 or sha256:all, and with ranges
-- besides: sha256:0-7 (this profile).
use Rattle.std.specs.Prelude.{◌≡◌, ◌<◌, ◌==◌, ◌&&◌, ◌||◌, nat_lt, nat_le, ℕ, Bool, true, false, List, codes}
use Rattle.std.specs.Prelude.{length, map, Option, Some, None, if◌then◌else◌}
use Rattle.std.specs.List.{AllByRecursion, list_all, list_any, slice_split, before_first, after_first}
use Rattle.std.specs.Str.Parse.{digits_value}
use Rattle.std.specs.Str.{bytes_eq, all_ascii_digits}
use Rattle.tpm_types.specs.declared.alg.Alg.{Alg}
use Rattle.tpm_types.specs.declared.tpms.Selection.{Selection}
use Rattle.tpm_names.specs.declared.selection.RegisterList.{RegisterList}
use Rattle.tpm_types.specs.Alg.{alg_name, all_algs}
use Rattle.tpm_types.specs.Handles.{is_pcr}
use Rattle.tpm_types.specs.Tpms.{is_selected}

-- decimal digits, one or more
abbrev pub is_numeral : List ℕ → Bool
is_numeral text = nat_lt 0 (length text) && all_ascii_digits text

-- the parts between the characters of this code: `,` is 44 and `+` is 43
abbrev pub parts : ℕ → List ℕ → List (List ℕ)
parts code text = slice_split (λ b. b == code) text

-- the digits of the first register of a range, as `0-7`, and of the last: `-` is 45; or a number alone
abbrev pub first_in : List ℕ → List ℕ
first_in text = before_first (λ b. b == 45) text

abbrev pub last_in : List ℕ → List ℕ
last_in text = if nat_lt (length (first_in text)) (length text) then after_first (λ b. b == 45) text else text

-- the number of a register
abbrev pub register_in : List ℕ → Option ℕ
register_in text = if is_numeral text && is_pcr (digits_value 10 text) then Some (digits_value 10 text) else None

-- The first is not above the last.
abbrev pub is_range_of : (first last : Option ℕ) → Bool
is_range_of (Some first) (Some last) = nat_le first last
is_range_of _ _ = false

abbrev pub is_range : List ℕ → Bool
is_range text = is_range_of (register_in (first_in text)) (register_in (last_in text))

-- The register is one of them.
abbrev pub is_within : ℕ → (first last : Option ℕ) → Bool
is_within register (Some first) (Some last) = nat_le first register && nat_le register last
is_within register _ _ = false

abbrev pub range_names : ℕ → List ℕ → Bool
range_names register text = is_within register (register_in (first_in text)) (register_in (last_in text))

-- `all`, or registers and ranges of them with commas between them
abbrev pub are_registers : List ℕ → Bool
are_registers text = bytes_eq text (codes "all") || list_all is_range (parts 44 text)

-- They name this register.
abbrev pub name_register : ℕ → List ℕ → Bool
name_register register text = bytes_eq text (codes "all") || list_any (range_names register) (parts 44 text)

-- a list of registers, by its text
abbrev pub IsRegisterList : List ℕ → RegisterList → Type 0
IsRegisterList text list = (list.text.now ≡ text) × (are_registers text ≡ true)

-- It has this register, where there is such a one.
abbrev pub has_register : RegisterList → ℕ → Bool
has_register list register = is_pcr register && name_register register list.text.now

-- what stands before the first colon, and behind it
abbrev pub name_in : List ℕ → List ℕ
name_in part = before_first (λ b. b == 58) part

abbrev pub registers_in : List ℕ → List ℕ
registers_in part = after_first (λ b. b == 58) part

-- The name of a bank, a colon, and registers of the bank: without a colon the registers are empty, which is no list.
abbrev pub is_part : List ℕ → Bool
is_part part = list_any (λ bank. bytes_eq (name_in part) (alg_name bank)) all_algs && are_registers (registers_in part)

-- A part names this register of the bank.
abbrev pub part_names : Alg → ℕ → List ℕ → Bool
part_names bank register part = bytes_eq (name_in part) (alg_name bank) && name_register register (registers_in part)

-- One of the parts does.
abbrev pub names : List ℕ → Alg → ℕ → Bool
names text bank register = list_any (part_names bank register) (parts 43 text)

-- a part or more with `+` between them, and an entry for each bank in which the registers that they
-- name are selected, and no others
abbrev pub AreSelections : List ℕ → List Selection → Type 0
AreSelections text selections = (list_all is_part (parts 43 text) ≡ true) × (map (λ s. s.hash) selections ≡ all_algs)
    × AllByRecursion (λ s. (register : ℕ)
    → register < 24 → is_selected s.select register ≡ names text s.hash register) selections
