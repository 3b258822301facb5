-- What a device answers to a buffer, by the order of its checks (this profile).
use Rattle.std.specs.Prelude.{ℕ, ◌+◌, ◌-◌, Bool, not, ◌==◌, List, [], ◌∷◌, is_none, Result, Ok, Err, if◌then◌else◌}
use Rattle.tpm_wire.specs.declared.refusal.Refusal.{Refusal}
use Rattle.tpm_wire.specs.Buffers.{Layout}
use Rattle.tpm_wire.specs.Token.{Here, at_start}
use Rattle.tpm_wire.specs.Reading.{read, read_all, ◌>>=◌}
use Rattle.tpm_wire.specs.Spelling.{spelling}
use Rattle.tpm_wire.specs.ResponseCodes.{rc_auth_context, rc_auth_missing, rc_handle, rc_initialize, rc_reference_h0}
use Rattle.tpm_wire.specs.ResponseCodes.{of_handle}
use Rattle.tpm_types.specs.declared.tpms.Auth.{Auth}
use Rattle.tpm_types.specs.Handles.{is_nv_index, is_policy}
use Rattle.tpm_types.specs.declared.command_code.CommandCode.{CommandCode}
use Rattle.tpm_commands.specs.declared.command.Command.{Command}
use Rattle.tpm_commands.specs.declared.command.ReplyBody.{ReplyBody}
use Rattle.tpm_commands.specs.Handles.{first, handles, needs_authorization}
use Rattle.tpm_commands.specs.Parameters.{parameters}
use Rattle.tpm_commands.specs.Replies.{parameters_of_reply}
use Rattle.tpm_types.specs.declared.command_code.CommandCode.TheVariants as codes
use Rattle.tpm_commands.specs.declared.response.Response.TheVariants as responses
use Rattle.tpm_buffer.specs.Commands.{header, authorization, body_from, with_auths, code_for}
use Rattle.tpm_buffer.specs.Responses.{Reply, response, done_with}
use Rattle.tpm_model.specs.Steps.{History, Accepted, Origin}
use Rattle.tpm_model.specs.Sessions.{loaded}
use Rattle.tpm_model.specs.Counters.{counter_in}
use Rattle.tpm_model.specs.Present.{Present, present}
use Rattle.tpm_model.specs.Entities.{Entity, entity_of, names_of}
use Rattle.tpm_model.specs.Authorization.{refuse, Evidence, evidence_of, check_evidence, first_loaded, reply_auths}
use Rattle.tpm_model.specs.Actions.{action}

-- ---- checks by the grammar

-- a fault by its code alone
abbrev pub code_only : {A : Type 0} → Result A Refusal → Result A ℕ
code_only (Ok x) = Ok x
code_only (Err e) = Err e.code

-- What a cut of the command says from a place on. What is read there is what its one path says, or its one fault
-- (tpm_wire, one_reading_within).
abbrev pub by_grammar : {A : Type 0} → Layout A → Here → Result (A × Here) ℕ
by_grammar l h = code_only (read 0 l h)

-- ---- the other checks before the authorization

-- TPM2_Startup comes first, and once (Part 3, 9.3).
abbrev pub check_started : Bool → CommandCode → Result (Unit {0}) ℕ
check_started started codes.Startup = refuse started rc_initialize
check_started started _ = refuse (not started) rc_initialize

-- The i-th handle, from 1: a policy session is loaded, an index is defined.
abbrev pub check_handle : Present → ℕ → ℕ → Result (Unit {0}) ℕ
check_handle p i n =
    if is_policy n then refuse (is_none (loaded p.sessions n)) (rc_reference_h0 + i - 1)
    else if is_nv_index n then refuse (is_none (counter_in p.nv.counters n)) (rc_handle + of_handle i)
    else Ok tt

abbrev pub check_handles : Present → ℕ → List ℕ → Result (Unit {0}) ℕ
check_handles p i [] = Ok tt
check_handles p i (n ∷ ns) = do
  _ ← check_handle p i n
  check_handles p (i + 1) ns

-- Sessions are there where a handle needs authorization, and nowhere else.
abbrev pub check_tag : CommandCode → ℕ → Result (Unit {0}) ℕ
check_tag code tag =
    if needs_authorization code then refuse (tag == 0x8001) rc_auth_missing else refuse (tag == 0x8002) rc_auth_context

-- ---- the chain of checks

-- what was read before the parameters, and how the command is authorized
pub record Presented : Type 0 where
  pub code : CommandCode
  pub handles : List ℕ
  pub auths : List Auth
  pub params : List ℕ
  pub entity : Entity
  pub evidence : Evidence

-- the checks of the sessions, with what is present, and the parameters as they came
abbrev pub evidence_in : Present → CommandCode → (handles : List ℕ) → (params : List ℕ) → List Auth → Result Evidence ℕ
evidence_in p code handles params auths =
    evidence_of (first_loaded (loaded p.sessions) auths) (entity_of p (first handles)) code (names_of p handles) params
    p.registers.update_counter auths

-- all checks before the password or the HMAC is compared
abbrev pub presented : Present → List ℕ → Result Presented ℕ
presented p bytes = do
  head ← by_grammar header (at_start bytes)
  _ ← check_started p.started head.0.code
  list ← by_grammar (handles head.0.code) head.1
  _ ← check_handles p 1 list.0
  _ ← check_tag head.0.code head.0.tag
  auths ← by_grammar (authorization head.0.tag) list.1
  evidence ← evidence_in p head.0.code list.0 auths.1.rest auths.0
  Ok (record {
    code = head.0.code;
    handles = list.0;
    auths = auths.0;
    params = auths.1.rest;
    entity = entity_of p (first list.0);
    evidence = evidence;
  })

-- all checks before the parameters
abbrev pub permitted : Present → List ℕ → Result Presented ℕ
permitted p bytes = do
  x ← presented p bytes
  _ ← check_evidence x.entity x.evidence
  Ok x

-- a command that was done, and its reply
pub record Done : Type 0 where
  pub command : Command
  pub reply : Reply

-- the parameters of a reply, in bytes
abbrev pub reply_params : ReplyBody → List ℕ
reply_params body = spelling (parameters_of_reply body) body

-- the parameters, their end, and the action
abbrev pub performed : Present → List ℕ → Presented → Result Done ℕ
performed p nonce x = do
  params ← code_only (read_all (parameters x.code) x.params)
  body ← action p (body_from x.handles params) nonce
  Ok (record {
    command = with_auths (body_from x.handles params) x.auths;
    reply = record { body = body; auths = reply_auths x.evidence x.code (reply_params body) nonce };
  })

-- what is done, or the code of the first check that fails
abbrev pub outcome : Present → List ℕ → List ℕ → Result Done ℕ
outcome p bytes nonce = do
  x ← permitted p bytes
  performed p nonce x

-- ---- the answer

-- in bytes; a code is spelled alike for every command
abbrev pub answered : Result Done ℕ → List ℕ
answered (Ok d) = spelling (response (code_for d.command.body)) (done_with d.reply)
answered (Err code) = spelling (response codes.Startup) (responses.Code code)

abbrev pub answer : Origin → History → (bytes nonce : List ℕ) → List ℕ
answer o h bytes nonce = answered (outcome (present o h) bytes nonce)

abbrev pub with_outcome : History → (nonce : List ℕ) → Result Done ℕ → History
with_outcome h nonce (Ok d) = Accepted d.command d.reply nonce ∷ h
with_outcome h nonce (Err code) = h

-- the history after a buffer: a step more where it was accepted, and otherwise the same
abbrev pub next : Origin → History → (bytes nonce : List ℕ) → History
next o h bytes nonce = with_outcome h nonce (outcome (present o h) bytes nonce)
