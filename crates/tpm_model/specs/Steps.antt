-- What a device has accepted.
use Rattle.std.specs.Prelude.{ℕ, Bool, true, false, ◌||◌, List, [], ◌∷◌}
use Rattle.tpm_commands.specs.declared.command.Command.{Command}
use Rattle.tpm_commands.specs.declared.command.CommandBody.{CommandBody}
use Rattle.tpm_commands.specs.declared.command.CommandBody.TheVariants as bodies
use Rattle.tpm_buffer.specs.Responses.{Reply}
use Rattle.tpm_model.specs.NvMemory.{NvMemory, new_nv}

-- an accepted command, with its reply and the nonce that was handed in, or a power cycle
pub data Step : Type 0 where
  Accepted : (command : Command) → (reply : Reply) → (nonce : List ℕ) → Step
  PowerCycle : Step

-- A history: its steps, the newest first.
abbrev pub History : Type 0
History = List Step

-- what made the device: the owner's authorization value, and the NV memory that it began with
pub record Origin : Type 0 where
  pub owner : List ℕ
  pub nv : NvMemory

-- the origin of a new device, of which no counter has had a greater value than this
abbrev pub new_origin : (owner : List ℕ) → (greatest : ℕ) → Origin
new_origin owner greatest = record { owner = owner; nv = new_nv greatest }

-- a TPM2_Startup
abbrev pub starts : CommandBody → Bool
starts (bodies.Startup kind) = true
starts _ = false

-- A TPM2_Startup stands after the last power cycle (Part 3, 9.3).
abbrev pub started : History → Bool
started [] = false
started (PowerCycle ∷ h) = false
started (Accepted c r n ∷ h) = starts c.body || started h
