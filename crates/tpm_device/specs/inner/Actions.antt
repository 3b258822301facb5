-- What the action of a command does.
use Rattle.std.specs.Prelude.{◌≡◌, ℕ, true, List, [], ◌∷◌, Result, Ok, Err}
use Rattle.tpm_wire.specs.Reading.{read_all, ◌>>=◌}
use Rattle.tpm_commands.specs.declared.command.CommandBody.{CommandBody}
use Rattle.tpm_commands.specs.declared.command.Params.{Params}
use Rattle.tpm_commands.specs.declared.command.ReplyBody.{ReplyBody}
use Rattle.tpm_commands.specs.Handles.{needs_authorization}
use Rattle.tpm_commands.specs.Parameters.{parameters, params_code}
use Rattle.tpm_buffer.specs.CommandAreas.{Cut}
use Rattle.tpm_buffer.specs.Commands.{body_from, with_auths}
use Rattle.tpm_model.specs.Steps.{History, Origin, Step, Accepted}
use Rattle.tpm_model.specs.Present.{Present}
use Rattle.tpm_model.specs.Entities.{entity_of, auth_value, is_owner_entity}
use Rattle.tpm_model.specs.Authorization.{reply_auths}
use Rattle.tpm_model.specs.Actions.{action}
use Rattle.tpm_model.specs.Answers.{Presented, Done, performed, reply_params}
use Rattle.tpm_device.specs.declared.device.Device.{Device}
use Rattle.tpm_device.specs.Stands.{holds, Stands}

-- what a command is that was done, with its reply
abbrev pub done_by : Presented → CommandBody → List ℕ → ReplyBody → Done
done_by x body nonce reply = record {
  command = with_auths body x.auths;
  reply = record { body = reply; auths = reply_auths x.evidence x.code (reply_params reply) nonce };
}

-- what is done by the action of a command, or the code of its refusal
abbrev pub done_of : Present → List ℕ → Presented → CommandBody → Result Done ℕ
done_of p nonce x body = action p body nonce >>= λ reply. Ok (done_by x body nonce reply)

-- A device authorizes as what was present: it has the same sessions, and the handle names what has
-- the same authorization value.
pub record IsAlike (p : Present) (d : Device) (handle : ℕ) : Type 0 where
  pub sessions : p.sessions ≡ d.sessions
  pub value : auth_value (entity_of p handle) ≡ auth_value (entity_of (holds d) handle)
  pub owner : is_owner_entity (entity_of p handle) ≡ is_owner_entity (entity_of (holds d) handle)

-- what an action answers that leaves its reply in a place
abbrev pub acted : ReplyBody → Result (Unit {0}) ℕ → Result ReplyBody ℕ
acted reply (Ok u) = Ok reply
acted reply (Err code) = Err code

-- the step of a command as it is before the nonce of its session rolls
abbrev pub step_of : CommandBody → ReplyBody → List ℕ → Step
step_of body reply nonce = Accepted (with_auths body []) (record { body = reply; auths = [] }) nonce

-- Where one device stands at a history, the other stands at the history with this step.
abbrev pub Steps : (old new : Device) → Step → Type 0
Steps old new step = (o : Origin) (h : History) → Stands o h old → Stands o (step ∷ h) new

-- an action: the device before it and after it, the nonce that is handed in, and the reply that is left
pub record Acting : Type 0 where
  pub old : Device
  pub nonce : List ℕ
  pub reply : ReplyBody
  pub new : Device

-- Where the action of a command that was read is done, its parameters were read, and the sessions stay as they are
-- where one of them authorized it; otherwise nothing was done, and the command is refused with this code.
abbrev pub IsActed : Cut → Acting → Result (Unit {0}) ℕ → Type 0
IsActed x a (Ok u) =
    (params : Params) × (read_all (parameters x.header.code) x.params ≡ Ok params)
    × (params_code params ≡ x.header.code)
    × (Ok a.reply ≡ action (holds a.old) (body_from x.handles params) a.nonce)
    × Steps a.old a.new (step_of (body_from x.handles params) a.reply a.nonce)
    × (needs_authorization x.header.code ≡ true → a.new.sessions ≡ a.old.sessions)
IsActed x a (Err code) =
    ((y : Presented) → y.code ≡ x.header.code → y.handles ≡ x.handles → y.params ≡ x.params →
    performed (holds a.old) a.nonce y ≡ Err code)
    × (a.new ≡ a.old)
