-- What the reader's own steps give.
use Rattle.std.specs.Prelude.{ℕ, ◌<◌, ◌≤◌, List, length, take, Option, Some, None, Result, Ok, Err}
use Rattle.std.specs.Io.KnownBytes.{Consumes, IsAtEnd}
use Rattle.arrayvec.specs.ArrayVec.{ArrayVec}
use Rattle.tpm_wire.specs.Sources.{MeetsEnds}
use Rattle.tpm_stream.specs.declared.reader.ReadFault.{ReadFault}

-- The first bytes of the room are the next ones: so many, fewer only at the end, or some where a read failed.
abbrev pub Fills : {E : Type 0} → Option (List ℕ) → Option (List ℕ) → List ℕ → Result ℕ E → Type 0
Fills old new room (Ok n) = (n ≤ length room) × Consumes old new (take n room) × (n < length room → IsAtEnd new)
Fills old new room (Err e) = (n : ℕ) × (n < length room) × Consumes old new (take n room)

-- One did where fewer bytes came than there is room for, and else none.
abbrev pub EndsFill : {E : Type 0} → (old new : Option ℕ) → List ℕ → Result ℕ E → Type 0
EndsFill old new room (Ok n) = (n < length room → MeetsEnds old new 1) × (length room ≤ n → MeetsEnds old new 0)
EndsFill old new room (Err e) = MeetsEnds old new 0

-- a buffer, in whose place a frame is read
abbrev pub IsBuffer : Result (Option (ArrayVec ℕ)) ReadFault → Type 0
IsBuffer (Ok (Some frame)) = Unit {0}
IsBuffer (Ok None) = ⊥
IsBuffer (Err fault) = ⊥
