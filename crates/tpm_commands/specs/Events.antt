-- What PCR_Event measures: TPM2B_EVENT (Part 2, 10.4.7).
use Rattle.std.specs.Prelude.{ℕ}

-- how many bytes it has at most
abbrev pub event_bytes : ℕ
event_bytes = 1024
