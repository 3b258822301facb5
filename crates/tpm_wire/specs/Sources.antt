-- What sources of bytes count, where they stop and end, and what is said of their bytes where they do not tell them.
use Rattle.std.specs.Prelude.{◌≡◌, ℕ, ◌+◌, ◌-◌, ◌^◌, ◌<◌, min, Bool, true, List, Option, Some, None, Result, Ok, Err}

-- one failure more, where the count has room for it
abbrev pub one_more : ℕ → ℕ
one_more n = min (n + 1) (2 ^ 64 - 1)

-- A failed read alone raises the count of failures.
abbrev pub CountsFailures : {X E : Type 0} → ℕ → ℕ → Result X E → Type 0
CountsFailures old new (Ok x) = new ≡ old
CountsFailures old new (Err e) = new ≡ one_more old

-- The source says that its last read failed.
abbrev pub IsWhereItFailed : Bool → Type 0
IsWhereItFailed stopped = stopped ≡ true

-- A read met the end: it gave no bytes, though it had room for so many.
abbrev pub IsEnd : {E : Type 0} → ℕ → Result ℕ E → Type 0
IsEnd room (Ok n) = (n ≡ 0) × (0 < room)
IsEnd room (Err e) = ⊥

-- So many reads more have met the end, where they are counted.
abbrev pub MeetsEnds : (old new : Option ℕ) → ℕ → Type 0
MeetsEnds None new more = Unit {0}
MeetsEnds (Some n) None more = ⊥
MeetsEnds (Some n) (Some m) more = m ≡ n + more

-- A read that met the end alone raises the count of them, by one.
abbrev pub CountsEnds : {E : Type 0} → (old new : Option ℕ) → ℕ → Result ℕ E → Type 0
CountsEnds old new room read = (IsEnd room read → MeetsEnds old new 1) × ((IsEnd room read → ⊥) → MeetsEnds old new 0)

-- This holds of the bytes of a source where it tells them, and else of some bytes.
abbrev pub OfBytes : (List ℕ → Type 0) → Option (List ℕ) → Type 0
OfBytes P (Some bytes) = P bytes
OfBytes P None = (bytes : List ℕ) × P bytes
