-- What the calls answer, beside what the commands do.
use Rattle.std.specs.Prelude.{ℕ, Option, is_none, Result}
use Rattle.tpm_wire.specs.ResponseCodes.{rc_handle}
use Rattle.tpm_model.specs.Counters.{Counter}
use Rattle.tpm_model.specs.Authorization.{refuse}

-- an index that is not defined is not undefined
abbrev pub check_undefine : Option Counter → Result (Unit {0}) ℕ
check_undefine there = refuse (is_none there) rc_handle
