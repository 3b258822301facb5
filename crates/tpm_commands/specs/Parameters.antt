-- The parameters of the commands (Part 3, the command table of each).
use Rattle.std.specs.Prelude.{Result, Ok, Err}
use Rattle.tpm_wire.specs.declared.refusal.Refusal.{Refusal}
use Rattle.tpm_wire.specs.Buffers.{Layout}
use Rattle.tpm_types.specs.declared.command_code.CommandCode.{CommandCode}
use Rattle.tpm_commands.specs.declared.command.Params.{Params}
use Rattle.tpm_commands.specs.Table.{row}
pub use Rattle.tpm_commands.specs.Table.{params_code}

abbrev pub parameters : CommandCode → Layout Params
parameters code = (row code).parameters

-- what was read into a place, or the fault
abbrev pub placed : {A : Type 0} → A → Result (Unit {0}) Refusal → Result A Refusal
placed x (Ok u) = Ok x
placed x (Err e) = Err e
