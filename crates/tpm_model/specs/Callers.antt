-- What a caller sends, and what it takes for the reply (Part 1, "Session-Based Authorizations" and "HMAC Computation").
use Rattle.std.specs.Prelude.{ℕ, Bool, ◌&&◌, ◌==◌, nat_le, bytes_eq, List, [], ◌∷◌, length, Option, Some, None, Result}
use Rattle.std.specs.Prelude.{Ok, Err, if◌then◌else◌}
use Rattle.tpm_wire.specs.declared.refusal.Refusal.{Refusal}
use Rattle.tpm_wire.specs.Reading.{read_all, ◌>>=◌}
use Rattle.tpm_wire.specs.Spelling.{spelling}
use Rattle.tpm_types.specs.declared.tpms.Auth.{Auth}
use Rattle.tpm_types.specs.declared.tpms.AuthReply.{AuthReply}
use Rattle.tpm_types.specs.declared.handle_sets.BindHandle.{BindHandle}
use Rattle.tpm_types.specs.Alg.{digest_len}
use Rattle.tpm_types.specs.declared.command_code.CommandCode.{CommandCode}
use Rattle.tpm_commands.specs.declared.command.Command.{Command}
use Rattle.tpm_commands.specs.declared.command.CommandBody.{CommandBody}
use Rattle.tpm_commands.specs.declared.command.StartAuth.{StartAuth}
use Rattle.tpm_commands.specs.declared.response.StartReply.{StartReply}
use Rattle.tpm_commands.specs.declared.command.ReplyBody.{ReplyBody}
use Rattle.tpm_commands.specs.declared.response.Response.{Response}
use Rattle.tpm_types.specs.CommandCodes.{code_number}
use Rattle.tpm_commands.specs.Parameters.{parameters}
use Rattle.tpm_types.specs.declared.handle_sets.BindHandle.TheVariants as binds
use Rattle.tpm_commands.specs.declared.response.Response.TheVariants as responses
use Rattle.tpm_buffer.specs.Commands.{command, code_for, params_of, with_auths}
use Rattle.tpm_buffer.specs.Responses.{response, done_with}
use Rattle.tpm_hmac.specs.Hmac.{hmac}
use Rattle.tpm_hmac.specs.Sessions.{session_key, whole_key, cp_hash, mac_text}
use Rattle.tpm_model.specs.Authorization.{reply_text}
use Rattle.tpm_model.specs.Answers.{reply_params}
use Rattle.tpm_model.specs.InStep.{CallerSession}

-- ---- starting (Part 1, "sessionKey Creation")

-- Both nonces have one length: 16 bytes at least, and no more than a digest.
abbrev pub nonces_fit : StartAuth → StartReply → Bool
nonces_fit q r =
    length r.nonce_tpm == length q.params.nonce_caller && nat_le 16 (length q.params.nonce_caller)
    && nat_le (length q.params.nonce_caller) (digest_len q.params.auth_hash)

-- the authValue of what it is bound to, if it is bound
abbrev pub bound_to : BindHandle → List ℕ → Option (List ℕ)
bound_to binds.Owner bind_auth = Some bind_auth
bound_to binds.Null bind_auth = None

-- the caller that a request and its reply make
abbrev pub started_with : StartAuth → StartReply → (bind_auth : List ℕ) → Option CallerSession
started_with q r bind_auth = if nonces_fit q r then Some (record {
  handle = r.session;
  hash = q.params.auth_hash;
  key = session_key q.params.auth_hash (bound_to q.bind bind_auth) r.nonce_tpm q.params.nonce_caller;
  nonce = r.nonce_tpm;
}) else None

-- ---- sealing

-- what is sealed: by whom, the command, the Names of its handles, what follows the session key, the nonceCaller, and
-- whether the session is kept
pub record Seal : Type 0 where
  pub caller : CallerSession
  pub body : CommandBody
  pub names : List (List ℕ)
  pub auth : List ℕ
  pub nonce : List ℕ
  pub keep : Bool

-- continueSession or nothing
abbrev pub attrs_for : (keep : Bool) → ℕ
attrs_for keep = if keep then 0x01 else 0x00

-- sessionKey || authValue
abbrev pub seal_key : Seal → List ℕ
seal_key s = whole_key s.caller.key s.auth

-- the parameters of a command, in bytes
abbrev pub command_params : CommandBody → List ℕ
command_params body = spelling (parameters (code_for body)) (params_of body)

-- cpHash || nonceCaller || nonceTPM || attributes
abbrev pub seal_text : Seal → List ℕ
seal_text s =
    mac_text (cp_hash s.caller.hash (code_number (code_for s.body)) s.names (command_params s.body)) s.nonce
    s.caller.nonce (attrs_for s.keep)

abbrev pub seal_auth : Seal → Auth
seal_auth s = record {
  session = s.caller.handle;
  nonce = s.nonce;
  attrs = attrs_for s.keep;
  hmac = hmac s.caller.hash (seal_key s) (seal_text s);
}

-- the command with one session, whose HMAC is always there
abbrev pub sealed_command : Seal → Command
sealed_command s = with_auths s.body (seal_auth s ∷ [])

abbrev pub sealed : Seal → List ℕ
sealed s = spelling command (sealed_command s)

-- ---- opening

-- what a caller keeps until the reply comes
pub record Waiting : Type 0 where
  pub caller : CallerSession
  pub code : CommandCode
  -- that of the command's HMAC
  pub key : List ℕ
  -- the nonceCaller of the command
  pub nonce : List ℕ
  pub keep : Bool

abbrev pub waiting : Seal → Waiting
waiting s = record { caller = s.caller; code = code_for s.body; key = seal_key s; nonce = s.nonce; keep = s.keep }

pub data CallerFault : Type 0 where
  -- The response does not decode.
  Refused : (refusal : Refusal) → CallerFault
  -- The command was not done.
  Code : (code : ℕ) → CallerFault
  -- There is not exactly one session, or its nonceTPM has another length than the session's.
  NotExpected : CallerFault
  WrongMac : CallerFault

-- what is opened: the caller with the new nonceTPM, where it was kept, and the response
pub record Opened : Type 0 where
  pub caller : Option CallerSession
  pub response : Response

-- rpHash || nonceTPM || nonceCaller || attributes
abbrev pub awaited_text : Waiting → ReplyBody → AuthReply → List ℕ
awaited_text w body a = reply_text w.caller.hash w.code (reply_params body) a.nonce w.nonce a.attrs

abbrev pub has_mac : Waiting → ReplyBody → AuthReply → Bool
has_mac w body a = bytes_eq a.hmac (hmac w.caller.hash w.key (awaited_text w body a))

abbrev pub with_nonce : CallerSession → List ℕ → CallerSession
with_nonce c nonce = record c { nonce = nonce }

abbrev pub caller_after : Waiting → AuthReply → Option CallerSession
caller_after w a = if w.keep then Some (with_nonce w.caller a.nonce) else None

-- a test with the fault of what fails it
abbrev pub unless : Bool → CallerFault → Result (Unit {0}) CallerFault
unless holds fault = if holds then Ok tt else Err fault

abbrev pub opened_session : Waiting → ReplyBody → List AuthReply → Result Opened CallerFault
opened_session w body (a ∷ []) = do
  _ ← unless (length a.nonce == length w.caller.nonce) NotExpected
  _ ← unless (has_mac w body a) WrongMac
  Ok (record { caller = caller_after w a; response = done_with (record { body = body; auths = a ∷ [] }) })
opened_session w body _ = Err NotExpected

abbrev pub opened_response : Waiting → Result Response Refusal → Result Opened CallerFault
opened_response w (Err e) = Err (Refused e)
opened_response w (Ok (responses.Code code)) = Err (Code code)
opened_response w (Ok (responses.Done body auths)) = opened_session w body auths.items

-- what bytes are opened as, or the first fault
abbrev pub opened : Waiting → List ℕ → Result Opened CallerFault
opened w bytes = opened_response w (read_all (response w.code) bytes)

-- the caller as before, where the command was not done
abbrev pub caller_of_refusal : Waiting → Result Response Refusal → Option CallerSession
caller_of_refusal w (Ok (responses.Code code)) = Some w.caller
caller_of_refusal w _ = None

abbrev pub given_up : Waiting → List ℕ → Option CallerSession
given_up w bytes = caller_of_refusal w (read_all (response w.code) bytes)
