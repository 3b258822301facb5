-- A command as it is handed in to be sealed: without its sessions.
use Rattle.std.specs.Prelude.{◌≡◌, ℕ, List, ◌++◌, length, drop, Option, Some, None, Result, Ok, Err, if◌then◌else◌}
use Rattle.tpm_wire.specs.declared.refusal.Refusal.{Refusal}
use Rattle.tpm_wire.specs.Spelling.{spelling, Fits}
use Rattle.tpm_types.specs.declared.command_code.CommandCode.{CommandCode}
use Rattle.tpm_commands.specs.declared.command.Command.{Command}
use Rattle.tpm_commands.specs.declared.command.CommandBody.{CommandBody}
use Rattle.tpm_commands.specs.Handles.{handles, needs_authorization}
use Rattle.tpm_commands.specs.Parameters.{parameters}
use Rattle.tpm_buffer.specs.Commands.{body_from, code_for, handles_of, params_of}
use Rattle.tpm_model.specs.Callers.{command_params, Waiting}
use Rattle.tpm_caller.specs.Sent.{Sent}

-- a command whose first handle needs authorization
abbrev pub body_in : Result Command Refusal → Option CommandBody
body_in (Ok c) = if needs_authorization (code_for c.body) then Some c.body else None
body_in (Err e) = None

-- its code, and the bytes of its handles and of its parameters
pub record PlainParts : Type 0 where
  pub code : CommandCode
  pub handles : List ℕ
  pub params : List ℕ

abbrev pub handle_bytes : CommandBody → List ℕ
handle_bytes body = spelling (handles (code_for body)) (handles_of body)

abbrev pub parts_of : CommandBody → PlainParts
parts_of body = record { code = code_for body; handles = handle_bytes body; params = command_params body }

abbrev pub parts_in : Option CommandBody → Option PlainParts
parts_in (Some body) = Some (parts_of body)
parts_in None = None

-- The handles and the parameters of a command have spellings, whatever is left, and make it again.
pub record PartsFit (body : CommandBody) : Type 0 where
  pub handles : (left : ℕ) → Fits left (handles (code_for body)) (handles_of body)
  pub params : (left : ℕ) → Fits left (parameters (code_for body)) (params_of body)
  pub whole : body_from (handles_of body) (params_of body) ≡ body

-- ---- in a room of the caller's

-- The text stands at the beginning of the room, behind it everything is as it was, and the count is the number of its
-- bytes.
abbrev pub IsAtFront : (text old new : List ℕ) → ℕ → Type 0
IsAtFront text old new count = (new ≡ text ++ drop (length text) old) × (count ≡ length text)

-- What was sealed waits for its reply, and its bytes are there.
abbrev pub IsSentFrom : Sent → (old new : List ℕ) → Waiting × ℕ → Type 0
IsSentFrom sent old new result = (result.0 ≡ sent.waiting) × IsAtFront sent.bytes old new result.1
