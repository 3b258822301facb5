-- Rules under which no token lacks bytes that are there.
use Rattle.std.specs.Prelude.{◌≡◌, ◌≤◌, ℕ, None}
use Rattle.tpm_wire.specs.Rules.{Rules}

-- A token that is in its area lacks nothing.
abbrev pub IsRoomy : Rules → Type 0
IsRoomy r = (mark : r.Mark) (at n left : ℕ) → n ≤ left → r.lacks mark at n left ≡ None
