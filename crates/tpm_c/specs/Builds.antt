-- What is made of a command's parts.
use Rattle.std.specs.Prelude.{◌≡◌, ◌⊎◌, ℕ, ◌<◌, ◌≤◌, List, length, Option, Some, None}
use Rattle.tpm_wire.specs.declared.refusal.Refusal.{Refusal}
use Rattle.tpm_wire.specs.ResponseCodes.{rc_command_size}
use Rattle.tpm_wire.specs.Path.{Spells, Fault}
use Rattle.tpm_types.specs.declared.command_code.CommandCode.{CommandCode}
use Rattle.tpm_commands.specs.declared.command.Command.{Command}
use Rattle.tpm_types.specs.CommandCodes.{code_of}
use Rattle.tpm_buffer.specs.Commands.{command}
use Rattle.tpm_buffer.specs.Parts.{joined}
use Rattle.tpm_c.specs.declared.part.TpmRefusal.{TpmRefusal}
use Rattle.tpm_c.specs.Calls.{Call}
use Rattle.tpm_c.specs.Parts.{refusal_of}
use Rattle.tpm_c.specs.Written.{IsIn}

-- the bytes of a command's parts: the handles, the sessions as the authorization area spells them, and the parameters
pub record GivenParts : Type 0 where
  pub handles : List ℕ
  pub sessions : List ℕ
  pub parameters : List ℕ

-- what a call writes to: the room, the number of the bytes in it, and the refusal
pub record Told : Type 0 where
  pub out : List ℕ
  pub count : ℕ
  pub refusal : TpmRefusal

-- COMMAND_SIZE at the size
abbrev pub too_long : Refusal
too_long = record { code = rc_command_size; at = 2 }

-- The bytes have this fault: of more than 4,096 it is their size.
abbrev pub IsRefused : List ℕ → Refusal → Type 0
IsRefused bytes e = ((4096 < length bytes) × (e ≡ too_long)) ⊎ ((length bytes ≤ 4096) × Fault command bytes e)

-- The answer is 0 with the bytes at the beginning of the room, where they spell a command; 1 with
-- their fault; or 2 where they spell a command and the room is less. What is not written so is as
-- it was.
abbrev pub BuildsBytes : List ℕ → Call Told → Type 0
BuildsBytes bytes call =
    ((call.answer ≡ 0)
    × ((c : Command) × Spells command c bytes)
    × IsIn bytes call.old.out call.new.out call.new.count
    × (call.new.refusal ≡ call.old.refusal))
    ⊎ ((call.answer ≡ 1)
    × IsRefused bytes (refusal_of call.new.refusal)
    × (call.new.out ≡ call.old.out)
    × (call.new.count ≡ call.old.count))
    ⊎ ((call.answer ≡ 2)
    × ((c : Command) × Spells command c bytes)
    × (length call.old.out < length bytes)
    × (call.new ≡ call.old))

abbrev pub BuildsOf : Option CommandCode → GivenParts → Call Told → Type 0
BuildsOf None parts call = (call.answer ≡ 3) × (call.new ≡ call.old)
BuildsOf (Some code) parts call = BuildsBytes (joined code parts.handles parts.sessions parts.parameters) call

-- This is answered for the command of this number and the bytes of its parts; 3 where no command has the number.
abbrev pub Builds : ℕ → GivenParts → Call Told → Type 0
Builds number parts call = BuildsOf (code_of number) parts call
