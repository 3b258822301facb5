-- The bits of a number that are set, by their names (this profile).
use Rattle.std.specs.Prelude.{ℕ, List, filter}
use Rattle.tpm_types.specs.Tpma.{is_set}
use Rattle.tpm_output.specs.Named.{Named}

-- each bit of a table that is set
abbrev pub bits_set : List Named → ℕ → List Named
bits_set table n = filter (λ bit. is_set bit.number n) table
