-- What `run` prints (this profile).
use Rattle.std.specs.Prelude.{◌≡◌, ◌≢◌, ◌⊎◌, ℕ, ◌+◌, ◌<◌, ◌≤◌, ◌==◌, nat_lt, List, [], ◌∷◌, ◌++◌, length, map, codes}
use Rattle.std.specs.Prelude.{Option, Some, None, if◌then◌else◌, Bool, true}
use Rattle.std.specs.Int.{to_be_bytes, w128}
use Rattle.std.specs.Str.{bytes_eq}
use Rattle.std.specs.Fmt.{decimal}
use Rattle.std.specs.List.{AllByRecursion}
use Rattle.std.specs.Io.KnownBytes.{Consumes, IsAtEnd}
use Rattle.tpm_model.specs.Steps.{History, Origin}
use Rattle.tpm_model.specs.Runs.{Stimulus, Given, Cycled, run}
use Rattle.tpm_output.specs.declared.status.Status.TheVariants.{Done, Refused}
use Rattle.tpm_output.specs.declared.status.Status.{Status}
use Rattle.tpm_output.specs.Text.{bytes_in, bytes_line, line}
use Rattle.tpm_output.specs.InputLines.{lines_of, HasNoFeed, AreEnded, most_bytes, most_piece}

-- ---- what a line asks for

pub data ScriptLine : Type 0 where
  Blank : ScriptLine
  Power : ScriptLine
  Command : (bytes : List ℕ) → ScriptLine
  NotHexadecimal : ScriptLine

-- those of a buffer of 4,096 bytes
abbrev pub most_digits : ℕ
most_digits = 8192

abbrev pub command_in : Option (List ℕ) → ScriptLine
command_in (Some bytes) = Command bytes
command_in None = NotHexadecimal

-- the empty line, and a comment behind `#`
abbrev pub is_skipped : List ℕ → Bool
is_skipped [] = true
is_skipped (first ∷ rest) = first == 35

abbrev pub line_of : List ℕ → ScriptLine
line_of text =
    if nat_lt most_digits (length text) then NotHexadecimal
    else if is_skipped text then Blank
    else if bytes_eq text (codes "power") then Power
    else command_in (bytes_in text)

-- ---- lines that have ended

abbrev pub AreAccepted : List ℕ → Type 0
AreAccepted lines = AllByRecursion (λ line. line_of line ≢ NotHexadecimal) (lines_of lines)

-- A line is refused where it ends, and at the first byte that it has too many.
abbrev pub IsRefusedLine : (line rest : List ℕ) → Type 0
IsRefusedLine line rest =
    ((line_of line ≡ NotHexadecimal) × (more : List ℕ) × (rest ≡ 10 ∷ more)) ⊎ (most_digits < length line)

-- A line is refused that comes behind lines that are accepted.
pub record IsRefusedIn (bytes : List ℕ) : Type 0 where
  pub lines : List ℕ
  pub line : List ℕ
  pub rest : List ℕ
  pub are : bytes ≡ lines ++ (line ++ rest)
  pub ended : AreEnded lines
  pub accepted : AreAccepted lines
  pub one : HasNoFeed line
  pub refused : IsRefusedLine line rest

-- All lines that have ended are accepted, and the one behind them has not too many digits.
pub record IsUnrefused (bytes : List ℕ) : Type 0 where
  pub lines : List ℕ
  pub line : List ℕ
  pub are : bytes ≡ lines ++ line
  pub ended : AreEnded lines
  pub accepted : AreAccepted lines
  pub one : HasNoFeed line
  pub most : length line ≤ most_digits

-- Lines that have ended and are accepted, and a line behind them that has not ended.
pub record AreAnswered (lines line : List ℕ) : Type 0 where
  pub ended : AreEnded lines
  pub accepted : AreAccepted lines
  pub one : HasNoFeed line

-- ---- what lines ask of a device, up to one that is not hexadecimal, and the number of that line, where there is one

pub record Script : Type 0 where
  pub stimuli : List Stimulus
  pub refused : Option ℕ

-- the nonce of the k-th command, from 1: k as a number of sixteen bytes, four times
abbrev pub nonce_of : ℕ → List ℕ
nonce_of k = let number = to_be_bytes w128 k in number ++ (number ++ (number ++ number))

-- Of these lines the first command is the k-th.
abbrev pub stimuli_from : ℕ → List ScriptLine → List Stimulus
stimuli_from k [] = []
stimuli_from k (Blank ∷ lines) = stimuli_from k lines
stimuli_from k (Power ∷ lines) = Cycled ∷ stimuli_from k lines
stimuli_from k (Command bytes ∷ lines) = Given bytes (nonce_of k) ∷ stimuli_from (k + 1) lines
stimuli_from k (NotHexadecimal ∷ lines) = []

-- Of these lines the first has number n.
abbrev pub refused_from : ℕ → List ScriptLine → Option ℕ
refused_from n [] = None
refused_from n (NotHexadecimal ∷ lines) = Some n
refused_from n (_ ∷ lines) = refused_from (n + 1) lines

abbrev pub script_from : (n k : ℕ) → List ScriptLine → Script
script_from n k lines = record { stimuli = stimuli_from k lines; refused = refused_from n lines }

abbrev pub script : List ℕ → Script
script bytes = script_from 1 1 (map line_of (lines_of bytes))

-- ---- what is printed

-- a line for each stimulus: `power`, or the answer to the buffer
abbrev pub stimuli_text : List Stimulus → (answers : List (List ℕ)) → List ℕ
stimuli_text [] answers = []
stimuli_text (Cycled ∷ stimuli) answers = line (codes "power" ∷ []) ++ stimuli_text stimuli answers
stimuli_text (Given bytes nonce ∷ stimuli) (answer ∷ answers) = bytes_line answer ++ stimuli_text stimuli answers
stimuli_text (Given bytes nonce ∷ stimuli) [] = []

unfoldable pub refused_line : ℕ → List ℕ
refused_line n = line (codes "line" ∷ (decimal n ++ codes ":") ∷ codes "not" ∷ codes "hexadecimal" ∷ [])

abbrev pub refused_text : Option ℕ → List ℕ
refused_text None = []
refused_text (Some n) = refused_line n

-- A device at this history is run: its answers, and then the line that is not hexadecimal.
abbrev pub script_text : Origin → History → Script → List ℕ
script_text o h s = stimuli_text s.stimuli (run o h s.stimuli) ++ refused_text s.refused

abbrev pub status_for : Option ℕ → Status
status_for None = Done
status_for (Some n) = Refused

-- ---- what is read

-- Of these bytes no line is refused but in the last of them, no more than are asked for at a time.
pub record IsRefusedLast (bytes : List ℕ) : Type 0 where
  pub before : List ℕ
  pub last : List ℕ
  pub are : bytes ≡ before ++ last
  pub unrefused : IsUnrefused before
  pub most : length last ≤ most_piece

-- Not too many bytes were read, and of these no line is refused but in the last of them, no more than are asked for
-- at a time.
pub record ReadsNoFurther (old new : Option (List ℕ)) : Type 0 where
  pub before : List ℕ
  pub last : List ℕ
  pub read : Consumes old new (before ++ last)
  pub unrefused : IsUnrefused before
  pub piece : length last ≤ most_piece
  pub most : length before + length last ≤ most_bytes

-- These bytes of the input were read, not too many; and it has ended, or a line of the last of them is refused, and
-- whatever comes makes no difference.
pub record ReadsScript (old new : Option (List ℕ)) (bytes : List ℕ) : Type 0 where
  pub read : Consumes old new bytes
  pub most : length bytes ≤ most_bytes
  pub whole : IsAtEnd new
      ⊎ IsRefusedIn bytes × IsRefusedLast bytes × ((more : List ℕ) → script (bytes ++ more) ≡ script bytes)

-- One byte more was read than a script may have, and up to it no line was refused.
pub record ReadsTooMuch (old new : Option (List ℕ)) : Type 0 where
  pub bytes : List ℕ
  pub more : List ℕ
  pub read : Consumes old new (bytes ++ more)
  pub most : length bytes ≡ most_bytes
  pub one : length more ≡ 1
  pub unrefused : IsUnrefused bytes
