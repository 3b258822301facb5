-- The lines of an input, and what is read of one (this profile).
use Rattle.std.specs.Prelude.{◌≡◌, ◌⊎◌, ℕ, ◌==◌, false, List, [], ◌∷◌, ◌++◌, Result, Ok, Err}
use Rattle.std.specs.Prelude.{if◌then◌else◌}
use Rattle.std.specs.List.{AllByRecursion}
use Rattle.tpm_wire.specs.Sources.{one_more}
use Rattle.tpm_output.specs.declared.fault.ToolFault.TheVariants.{Memory, Read, Write, InputTooLong}
use Rattle.tpm_output.specs.declared.fault.ToolFault.{ToolFault}

-- ---- the lines of an input

-- this byte, and then these lines
abbrev pub onto_first : ℕ → List (List ℕ) → List (List ℕ)
onto_first byte [] = (byte ∷ []) ∷ []
onto_first byte (first ∷ others) = (byte ∷ first) ∷ others

-- A line ends with a line feed, which is no part of it. The last may do without.
abbrev pub lines_of : List ℕ → List (List ℕ)
lines_of [] = []
lines_of (byte ∷ bytes) = if byte == 10 then [] ∷ lines_of bytes else onto_first byte (lines_of bytes)

-- No line feed is among these bytes.
abbrev pub HasNoFeed : List ℕ → Type 0
HasNoFeed line = AllByRecursion (λ byte. (byte == 10) ≡ false) line

-- These bytes are lines, each with its line feed.
abbrev pub AreEnded : List ℕ → Type 0
AreEnded lines = (lines ≡ []) ⊎ (before : List ℕ) × (lines ≡ before ++ 10 ∷ [])

-- ---- what is read

abbrev pub most_bytes : ℕ
most_bytes = 16777216

-- how many bytes are asked for at a time
abbrev pub most_piece : ℕ
most_piece = 4096

-- A read failed where the answer is Read, and nowhere else.
abbrev pub CountsRead : {X : Type 0} → ℕ → ℕ → Result X ToolFault → Type 0
CountsRead old new (Ok x) = new ≡ old
CountsRead old new (Err Read) = new ≡ one_more old
CountsRead old new (Err Memory) = new ≡ old
CountsRead old new (Err (Write failed)) = new ≡ old
CountsRead old new (Err InputTooLong) = new ≡ old

-- ---- what is added

-- to a text
abbrev pub AddedTo : (old new : List ℕ) → List ℕ → Type 0
AddedTo old new added = new ≡ old ++ added
