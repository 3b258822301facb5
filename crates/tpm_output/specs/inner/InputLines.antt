-- How many bytes are asked for next.
use Rattle.std.specs.Prelude.{ℕ, ◌-◌, min, max}
use Rattle.tpm_output.specs.InputLines.{most_piece}

-- how many are asked for where so many were read, of this many at most: up to the limit none is read together with one
-- behind it
abbrev pub room_behind : (most read : ℕ) → ℕ
room_behind most read = max 1 (min (most - read) most_piece)
