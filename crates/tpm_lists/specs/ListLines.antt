-- What the lines of a list of registers say (this profile).
use Rattle.std.specs.Prelude.{ℕ, ◌==◌, nat_lt, Bool, List, [], ◌∷◌, ◌++◌, length, map, position, find, codes}
use Rattle.std.specs.Prelude.{Option, Some, None, option_map, if◌then◌else◌, ◌&&◌, take, drop}
use Rattle.std.specs.Str.{bytes_eq}
use Rattle.std.specs.Fmt.{decimal}
use Rattle.std.specs.List.{before_first, after_first, range_with_len}
use Rattle.tpm_types.specs.declared.alg.Alg.{Alg}
use Rattle.tpm_types.specs.Alg.{all_algs, alg_name, digest_len}
use Rattle.tpm_output.specs.Text.{bytes_in}
use Rattle.tpm_lists.specs.declared.list_lines.Heading.TheVariants.{NoBank, Bank, OtherBank}
use Rattle.tpm_lists.specs.declared.list_lines.Heading.{Heading}
use Rattle.tpm_lists.specs.declared.list_lines.ListLine.TheVariants as listed
use Rattle.tpm_lists.specs.declared.list_lines.ListLine.{ListLine as InCode}
use Rattle.tpm_lists.specs.declared.stated.Stated.{Stated as RustStated}

-- ---- a line that states a register as its line is printed

pub record Stated : Type 0 where
  pub bank : Alg
  pub register : ℕ
  pub value : List ℕ

abbrev pub is_space : ℕ → Bool
is_space byte = byte == 32

-- what stands before the first space, or all where there is none
abbrev pub first_word : List ℕ → List ℕ
first_word text = before_first is_space text

-- what stands behind the first space, or nothing where there is none
abbrev pub behind_word : List ℕ → List ℕ
behind_word text = after_first is_space text

abbrev pub bank_named : List ℕ → Option Alg
bank_named word = find (λ bank. bytes_eq (alg_name bank) word) all_algs

-- the numbers of a bank's registers in decimal
abbrev pub register_names : List (List ℕ)
register_names = map decimal (range_with_len 0 24)

-- the number below 24 whose decimal spelling this is
abbrev pub register_named : List ℕ → Option ℕ
register_named word = position (λ name. bytes_eq name word) register_names

-- a value has as many bytes as a digest of the bank's hash
abbrev pub stated_of : Option Alg → Option ℕ → Option (List ℕ) → Option Stated
stated_of (Some bank) (Some register) (Some value) =
    if length value == digest_len bank then Some (record { bank = bank; register = register; value = value })
    else None
stated_of _ _ _ = None

-- the bank, the register and the value that a line states: their words, with a space between them
abbrev pub stated_in : List ℕ → Option Stated
stated_in text =
    stated_of (bank_named (first_word text)) (register_named (first_word (behind_word text)))
    (bytes_in (behind_word (behind_word text)))

-- ---- a line of what tpm2_pcrread prints: a bank's heading, or a register's number and value

-- the heading of the bank of this name
abbrev pub heading_line : List ℕ → List ℕ
heading_line name = codes "  " ++ (name ++ codes ":")

abbrev pub bank_headed : List ℕ → Option Alg
bank_headed text = find (λ bank. bytes_eq (heading_line (alg_name bank)) text) all_algs

-- how many bytes a digest has of the other bank whose heading this is
abbrev pub other_headed : List ℕ → Option ℕ
other_headed text =
    if bytes_eq text (codes "  sha512:") then Some 64
    else if bytes_eq text (codes "  sm3_256:") then Some 32
    else if bytes_eq text (codes "  sha3_256:") then Some 32
    else if bytes_eq text (codes "  sha3_384:") then Some 48
    else if bytes_eq text (codes "  sha3_512:") then Some 64
    else None

abbrev pub heading_of : Option Alg → Option ℕ → Option Heading
heading_of (Some bank) _ = Some (Bank bank)
heading_of None other = option_map OtherBank other

abbrev pub heading_in : List ℕ → Option Heading
heading_in text = heading_of (bank_headed text) (other_headed text)

-- Four spaces, the number in two places, a colon, a space and `0x` stand before the value.
abbrev pub is_numbered : List ℕ → Bool
is_numbered text = bytes_eq (take 4 text) (codes "    ") && bytes_eq (take 4 (drop 6 text)) (codes ": 0x")

-- A number of one digit has a space behind it.
abbrev pub number_in : List ℕ → Option ℕ
number_in text = register_named (first_word (take 2 (drop 4 text)))

abbrev pub numbered_value : List ℕ → Option (List ℕ)
numbered_value text = bytes_in (drop 10 text)

-- ---- a line of a list

pub data ListLine : Type 0 where
  States : Stated → ListLine
  Heads : Heading → ListLine
  -- a register of another bank
  Passes : ListLine
  Wrong : ListLine

abbrev pub stating : Option Stated → ListLine
stating (Some s) = States s
stating None = Wrong

-- a value of another bank, whose digests have so many bytes
abbrev pub passing : ℕ → Option ℕ → Option (List ℕ) → ListLine
passing size (Some register) (Some value) = if length value == size then Passes else Wrong
passing size _ _ = Wrong

-- a number and a value under a heading
abbrev pub numbered_under : Heading → Option ℕ → Option (List ℕ) → ListLine
numbered_under NoBank register value = Wrong
numbered_under (Bank bank) register value = stating (stated_of (Some bank) register value)
numbered_under (OtherBank size) register value = passing size register value

-- those of a line of SHA-512 that tpm2_pcrread prints
abbrev pub most_line : ℕ
most_line = 138

abbrev pub line_told : Option Heading → ListLine → ListLine
line_told (Some heading) _ = Heads heading
line_told None line = line

-- what a line says under a heading
unfoldable pub line_under : Heading → List ℕ → ListLine
line_under heading text =
    if nat_lt most_line (length text) then Wrong
    else line_told (heading_in text)
    (if is_numbered text then numbered_under heading (number_in text) (numbered_value text)
    else stating (stated_in text))

-- the heading of what is behind a line
abbrev pub heading_behind : Heading → ListLine → Heading
heading_behind heading (Heads other) = other
heading_behind heading _ = heading

-- what lines say, of which the first is under this heading
abbrev pub lines_under : Heading → List (List ℕ) → List ListLine
lines_under heading [] = []
lines_under heading (first ∷ others) = let line = line_under heading first in
    line ∷ lines_under (heading_behind heading line) others

-- ---- what was read of a line

abbrev pub stated_as : RustStated → Stated
stated_as s = record { bank = s.bank; register = s.register; value = s.value.items }

abbrev pub line_as : InCode → ListLine
line_as (listed.Stated s) = States (stated_as s)
line_as (listed.Heading heading) = Heads heading
line_as listed.Passed = Passes
line_as listed.Wrong = Wrong
