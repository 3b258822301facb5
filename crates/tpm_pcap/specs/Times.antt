-- When a packet was captured.
use Rattle.std.specs.Prelude.{ℕ, ◌+◌, ◌*◌, ◌/◌, ◌==◌, Option, Some, None, if◌then◌else◌}
use Rattle.tpm_pcap.specs.declared.block.Ticks.TheVariants.{Untold, Seconds, Units}
use Rattle.tpm_pcap.specs.declared.block.Ticks.{Ticks}

-- so many units of a second's as nanoseconds
abbrev pub nanoseconds : (per_second units : ℕ) → ℕ
nanoseconds per_second units = units * 1000000000 / per_second

-- how many nanoseconds after 1970 began, where it is told and a second's units are known
abbrev pub time_of : (per_second : ℕ) → Ticks → Option ℕ
time_of per_second Untold = None
time_of per_second (Seconds seconds units) =
    if per_second == 0 then None else Some (nanoseconds per_second (seconds * per_second + units))
time_of per_second (Units upper lower) =
    if per_second == 0 then None else Some (nanoseconds per_second (upper * 4294967296 + lower))
