-- The size that stands in a selection (Part 2, 10.6.2).
use Rattle.std.specs.Prelude.{ℕ, ◌==◌}
use Rattle.tpm_wire.specs.Buffers.{Layout, number_in}
use Rattle.tpm_wire.specs.ResponseCodes.{rc_value}
use Rattle.tpm_types.specs.Tpms.{select_bytes}

abbrev pub select_size : Layout ℕ
select_size = number_in 1 (λ n. n == select_bytes) rc_value
