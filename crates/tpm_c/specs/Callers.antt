-- A caller's session in memory of C's.
use Rattle.std.specs.Prelude.{ℕ, ◌==◌, nat_le, Bool, true, not, ◌&&◌, List, [], ◌∷◌, length, take, Option, Some, None}
use Rattle.std.specs.Prelude.{Result, Ok, Err, if◌then◌else◌}
use base.Fraction.{full_share}
use base.Fml.{Fml}
use denote.RawPtr.{Ptr, lies_at}
use Rattle.tpm_wire.specs.declared.refusal.Refusal.{Refusal}
use Rattle.tpm_wire.specs.Reading.{read_all}
use Rattle.tpm_types.specs.Limits.{digest_bytes, name_bytes}
use Rattle.tpm_types.specs.declared.command_code.CommandCode.TheVariants as codes
use Rattle.tpm_commands.specs.declared.command.Command.{Command}
use Rattle.tpm_commands.specs.declared.command.CommandBody.{CommandBody}
use Rattle.tpm_commands.specs.declared.command.StartAuth.{StartAuth}
use Rattle.tpm_commands.specs.declared.response.Response.{Response}
use Rattle.tpm_commands.specs.declared.command.ReplyBody.{ReplyBody}
use Rattle.tpm_commands.specs.declared.response.StartReply.{StartReply}
use Rattle.tpm_commands.specs.declared.command.CommandBody.TheVariants as bodies
use Rattle.tpm_commands.specs.declared.response.Response.TheVariants as responses
use Rattle.tpm_commands.specs.declared.command.ReplyBody.TheVariants as replies
use Rattle.tpm_buffer.specs.Commands.{command, handles_of}
use Rattle.tpm_buffer.specs.Responses.{response}
use Rattle.tpm_model.specs.InStep.{CallerSession}
use Rattle.tpm_model.specs.Callers.{started_with, Seal, sealed, Waiting, Opened, opened, given_up}
use Rattle.tpm_model.specs.Callers as model
use Rattle.tpm_caller.specs.declared.waiting.CallerFault.{CallerFault}
use Rattle.tpm_caller.specs.Faults.{fault_of}
use Rattle.tpm_caller.specs.Sent.{sent}
use Rattle.tpm_caller.specs.Plain.{body_in}
use Rattle.tpm_caller.specs.declared.waiting.CallerFault.TheVariants as faults
use Rattle.tpm_c.specs.declared.caller.CallerState.TheVariants.{Spent, Free, Sealed}
use Rattle.tpm_c.specs.declared.caller.CallerState.{CallerState}
use Rattle.tpm_c.specs.contracts.caller.CallerState.{the_row}

-- This lies there.
abbrev pub state_at : CallerState → Ptr → Fml
state_at state p = lies_at the_row full_share p state

-- ---- starting

abbrev pub request_of : CommandBody → Option StartAuth
request_of (bodies.StartAuthSession q) = Some q
request_of _ = None

abbrev pub request_in : Result Command Refusal → Option StartAuth
request_in (Ok c) = request_of c.body
request_in (Err e) = None

abbrev pub reply_of : ReplyBody → Option StartReply
reply_of (replies.StartAuthSession r) = Some r
reply_of _ = None

abbrev pub reply_in : Result Response Refusal → Option StartReply
reply_in (Ok (responses.Done body auths)) = reply_of body
reply_in _ = None

abbrev pub start_reply_in : List ℕ → Option StartReply
start_reply_in bytes = reply_in (read_all (response codes.StartAuthSession) bytes)

abbrev pub start_of : Option StartAuth → Option StartReply → List ℕ → Option CallerSession
start_of (Some q) (Some r) bind_auth = started_with q r bind_auth
start_of _ _ bind_auth = None

-- the caller that the bytes of a TPM2_StartAuthSession and of its reply make
abbrev pub started_by : (command_bytes reply bind_auth : List ℕ) → Option CallerSession
started_by bytes reply bind_auth = start_of (request_in (read_all command bytes)) (start_reply_in reply) bind_auth

abbrev pub start_code : Option CallerSession → ℕ
start_code (Some c) = 1
start_code None = 0

abbrev pub after_start : CallerState → Option CallerSession → CallerState
after_start state (Some c) = Free c
after_start state None = state

-- ---- sealing

-- as many of the Names as there are handles: the second is not looked at where there is one handle
abbrev pub names_of : CommandBody → (first second : List ℕ) → List (List ℕ)
names_of body first second = take (length (handles_of body)) (first ∷ second ∷ [])

-- none of the Names is too long
abbrev pub are_short : List (List ℕ) → Bool
are_short [] = true
are_short (name ∷ names) = nat_le (length name) name_bytes && are_short names

-- neither a Name nor the nonce is too long
abbrev pub do_fit : (names : List (List ℕ)) → (nonce : List ℕ) → Bool
do_fit names nonce = are_short names && nat_le (length nonce) digest_bytes

-- what a command is sealed with: the Names of its handles, what follows the session key in the key of the HMAC,
-- nonceCaller, and whether the session goes on
pub record SealedWith : Type 0 where
  pub first : List ℕ
  pub second : List ℕ
  pub auth : List ℕ
  pub nonce : List ℕ
  pub keep : Bool

-- C says it by a number.
abbrev pub is_set : ℕ → Bool
is_set keep = not (keep == 0)

abbrev pub seal_of : CallerSession → CommandBody → SealedWith → Seal
seal_of c body means = record {
  caller = c;
  body = body;
  names = names_of body means.first means.second;
  auth = means.auth;
  nonce = means.nonce;
  keep = means.keep;
}

abbrev pub seal_by : CallerState → Option CommandBody → SealedWith → Option Seal
seal_by (Free c) (Some body) means =
    if do_fit (names_of body means.first means.second) means.nonce then Some (seal_of c body means) else None
seal_by _ _ means = None

-- what is sealed, if anything is
abbrev pub sealing : CallerState → (command_bytes : List ℕ) → SealedWith → (room : ℕ) → Option Seal
sealing state bytes means room =
    if nat_le 4096 room then seal_by state (body_in (read_all command bytes)) means else None

abbrev pub sealed_bytes : Option Seal → List ℕ
sealed_bytes (Some s) = sealed s
sealed_bytes None = []

abbrev pub after_seal : CallerState → Option Seal → CallerState
after_seal state (Some s) = Sealed (sent s).waiting
after_seal state None = state

-- ---- opening

-- the numbers of faults
abbrev pub fault_number : CallerFault → ℕ
fault_number (faults.Refused refusal) = 1
fault_number (faults.Code code) = 2
fault_number faults.NotExpected = 3
fault_number faults.WrongMac = 4

abbrev pub opened_code : Result Opened model.CallerFault → ℕ
opened_code (Ok x) = 0
opened_code (Err fault) = fault_number (fault_of fault)

abbrev pub open_code : CallerState → List ℕ → ℕ
open_code (Sealed w) bytes = opened_code (opened w bytes)
open_code _ bytes = 5

-- free with the caller, where it is kept
abbrev pub kept : Option CallerSession → CallerState
kept (Some c) = Free c
kept None = Spent

abbrev pub after_opened : Waiting → Result Opened model.CallerFault → CallerState
after_opened w (Ok x) = kept x.caller
after_opened w (Err fault) = Sealed w

abbrev pub after_open : CallerState → List ℕ → CallerState
after_open (Sealed w) bytes = after_opened w (opened w bytes)
after_open state bytes = state

-- ---- giving up

abbrev pub give_up_code : CallerState → List ℕ → ℕ
give_up_code (Sealed w) bytes = start_code (given_up w bytes)
give_up_code _ bytes = 0

abbrev pub after_give_up : CallerState → List ℕ → CallerState
after_give_up (Sealed w) bytes = after_start (Sealed w) (given_up w bytes)
after_give_up state bytes = state
