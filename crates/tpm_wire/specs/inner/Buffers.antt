-- A place that lies so many bytes later in a buffer.
use Rattle.std.specs.Prelude.{ℕ, ◌+◌}
use Rattle.tpm_wire.specs.Token.{Here}

-- the same rest of an area, so many bytes further on
abbrev pub later_place : ℕ → Here → Here
later_place k h = record { rest = h.rest; at = h.at + k }
