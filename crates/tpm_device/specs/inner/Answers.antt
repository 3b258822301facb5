-- What a command is answered with.
use Rattle.std.specs.Prelude.{◌≡◌, ℕ, Bool, false, List, [], ◌∷◌, Result, Ok, Err}
use Rattle.tpm_wire.specs.Spelling.{spelling}
use Rattle.tpm_types.specs.declared.tpms.Auth.{Auth}
use Rattle.tpm_types.specs.declared.tpms.AuthReply.{AuthReply}
use Rattle.tpm_commands.specs.declared.command.CommandBody.{CommandBody}
use Rattle.tpm_commands.specs.declared.command.ReplyBody.{ReplyBody}
use Rattle.tpm_commands.specs.Handles.{first, needs_authorization}
use Rattle.tpm_commands.specs.Table.{row}
use Rattle.tpm_commands.specs.Replies.{code_for_reply}
use Rattle.tpm_commands.specs.declared.command.ReplyBody.TheVariants as replies
use Rattle.tpm_buffer.specs.CommandAreas.{Cut}
use Rattle.tpm_buffer.specs.Commands.{code_for, with_auths}
use Rattle.tpm_buffer.specs.Responses.{Reply, response, done_with}
use Rattle.tpm_model.specs.Steps.{History, Origin, Accepted}
use Rattle.tpm_model.specs.Present.{Present}
use Rattle.tpm_model.specs.Authorization.{Evidence, reply_auths, is_empty}
use Rattle.tpm_model.specs.Answers.{Done, reply_params}
use Rattle.tpm_device.specs.declared.device.Device.{Device}
use Rattle.tpm_device.specs.Stands.{Stands}
use Rattle.tpm_device.specs.inner.Checks.{evidence_for}
use Rattle.tpm_device.specs.inner.Actions.{IsAlike, step_of}

-- the bytes of a reply
abbrev pub reply_bytes : Reply → List ℕ
reply_bytes r = spelling (response (code_for_reply r.body)) (done_with r)

-- the replies that have no parameters; none of them has a handle
abbrev pub is_bare : ReplyBody → Bool
is_bare body = is_empty (row (code_for_reply body)).reply_names

-- one of them: all have the same bytes
abbrev pub any_bare : ReplyBody
any_bare = replies.Startup

-- the bytes of one with these sessions
abbrev pub bare_bytes : List AuthReply → List ℕ
bare_bytes auths = reply_bytes (record { body = any_bare; auths = auths })

-- what a call adds to an empty buffer where it succeeds, or its code
abbrev pub given : List ℕ → Result (Unit {0}) ℕ → Result (List ℕ) ℕ
given bytes (Ok u) = Ok bytes
given bytes (Err code) = Err code

-- the bytes of what was done, or the code of the check that failed
abbrev pub told : Result Done ℕ → Result (List ℕ) ℕ
told (Ok d) = Ok (reply_bytes d.reply)
told (Err code) = Err code

-- a reply, in bytes, with the nonce that was handed in
pub record Spelled : Type 0 where
  pub body : ReplyBody
  pub nonce : List ℕ
  pub bytes : List ℕ

-- These bytes are this reply to a command that was read, with the session of the device that has acted.
abbrev pub Replies : Device → Cut → Spelled → Type 0
Replies d x r =
    (p : Present) (e : Evidence) →
    ((a : Auth) (others : List Auth) → x.auths ≡ a ∷ others → IsAlike p d (first x.handles)) →
    evidence_for p x ≡ Ok e →
    r.bytes ≡ reply_bytes (record { body = r.body; auths = reply_auths e x.header.code (reply_params r.body) r.nonce })

-- After a command with these sessions the other device stands where this one stood without them.
abbrev pub Rolls : Device → List Auth → List ℕ → Device → Type 0
Rolls old auths nonce new =
    (o : Origin) (h : History) (body : CommandBody) (reply : ReplyBody) (replied : List AuthReply) →
    (needs_authorization (code_for body) ≡ false → auths ≡ []) →
    Stands o (step_of body reply nonce ∷ h) old →
    Stands o (Accepted (with_auths body auths) (record { body = reply; auths = replied }) nonce ∷ h) new
