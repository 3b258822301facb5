-- Rules that judge a token alike where more bytes are left.
use Rattle.std.specs.Prelude.{◌≡◌, ◌≤◌, ℕ}
use Rattle.tpm_wire.specs.Rules.{Rules}

-- A token that is in its area lacks the same, however many bytes are left in it.
abbrev pub IsAlike : Rules → Type 0
IsAlike r = (mark : r.Mark) (at n left more : ℕ) → n ≤ left → n ≤ more → r.lacks mark at n more ≡ r.lacks mark at n left
