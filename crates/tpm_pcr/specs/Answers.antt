-- What the calls answer.
use Rattle.std.specs.Prelude.{ℕ, List, not, ◌||◌, ◌==◌, Result, Ok, Err, if◌then◌else◌}
use Rattle.tpm_wire.specs.Reading.{◌>>=◌}
use Rattle.tpm_wire.specs.ResponseCodes.{rc_locality}
use Rattle.tpm_types.specs.declared.alg.Alg.{Alg}
use Rattle.tpm_types.specs.declared.handle_sets.PcrOrNull.TheVariants.{Pcr, Null}
use Rattle.tpm_types.specs.declared.handle_sets.PcrOrNull.{PcrOrNull}
use Rattle.tpm_pcr.specs.Registers.{is_dynamic, event_digests}
use Rattle.tpm_pcr.specs.declared.registers.Locality.TheVariants.{Zero, Three, Four}
use Rattle.tpm_pcr.specs.declared.registers.Locality.{Locality}

-- The registers of dynamic launch are extended from another locality alone.
abbrev pub check_extend : PcrOrNull → Result (Unit {0}) ℕ
check_extend (Pcr q) = if is_dynamic q then Err rc_locality else Ok tt
check_extend Null = Ok tt

-- The debug and the application register are reset from any locality.
abbrev pub check_reset : ℕ → Result (Unit {0}) ℕ
check_reset q = if not (q == 16 || q == 23) then Err rc_locality else Ok tt

abbrev pub locality_number : Locality → ℕ
locality_number Zero = 0
locality_number Three = 3
locality_number Four = 4

-- the digests of an event, where its register may be extended
abbrev pub event_answer : ℕ → List ℕ → Result (List (Alg × List ℕ)) ℕ
event_answer q event = check_extend (Pcr q) >>= λ _. Ok (event_digests event)
