-- A caller in step: its command passes, the reply is opened, and the caller is in step afterwards.
use Rattle.std.proofs.Common.{◌≡◌, ℕ, ◌≤◌, ◌<◌, ◌^◌, List, [], ◌∷◌, length, take, Result, Ok, Err, Some, None, Bool}
use Rattle.std.proofs.Common.{true, false, refl, sym, ap, ◌∙◌, subst, arith, length-take}
use Rattle.std.proofs.lemmas.Bool.{eq-eqb}
use Rattle.std.proofs.lemmas.Slice.Eq.{bytes_eq-Decides}
use Rattle.std.specs.Prelude.{if◌then◌else◌}
use Rattle.tpm_wire.specs.Buffers.{buffer}
use Rattle.tpm_wire.specs.Reading.{read_all}
use Rattle.tpm_wire.specs.Spelling.{spelling}
use Rattle.tpm_wire.proofs.Buffers.{buffer_sound}
use Rattle.tpm_wire.proofs.Whole.{exactly_one, spells_read}
use Rattle.tpm_types.specs.declared.tpms.AuthReply.{AuthReply}
use Rattle.tpm_types.specs.Tpma.{is_session_attrs}
use Rattle.tpm_types.proofs.Algs.{digest_most}
use Rattle.tpm_types.specs.declared.command_code.CommandCode.{CommandCode}
use Rattle.tpm_commands.specs.declared.command.Command.{Command}
use Rattle.tpm_commands.specs.declared.command.ReplyBody.{ReplyBody}
use Rattle.tpm_commands.specs.Handles.{needs_authorization}
use Rattle.tpm_buffer.specs.Commands.{command, code_for}
use Rattle.tpm_buffer.specs.Responses.{Reply, response, done_with}
use Rattle.tpm_buffer.proofs.Answered.{code_text, code_spelled}
use Rattle.tpm_commands.specs.declared.response.Response.TheVariants as responses
use Rattle.tpm_types.specs.declared.command_code.CommandCode.TheVariants as codes
use Rattle.tpm_hmac.specs.Hmac.{hmac}
use Rattle.tpm_hmac.proofs.DigestLengths.{length-hmac}
use Rattle.tpm_model.specs.Steps.{History, Origin}
use Rattle.tpm_model.specs.Sessions.{Session, loaded, sessions_at}
use Rattle.tpm_model.specs.Present.{Present, present}
use Rattle.tpm_model.specs.Authorization.{check_evidence, reply_text, reply_auths}
use Rattle.tpm_model.specs.Actions.{action}
use Rattle.tpm_model.specs.Answers.{Presented, presented, Done, outcome, answered, answer, next, with_outcome}
use Rattle.tpm_model.specs.Answers.{reply_params}
use Rattle.tpm_model.specs.InStep.{Agrees, InStep}
use Rattle.tpm_model.specs.Callers.{Seal, attrs_for, seal_key, seal_auth, sealed_command, sealed, Waiting, waiting}
use Rattle.tpm_model.specs.Callers.{CallerFault, Code, Opened, awaited_text, caller_after, opened_session}
use Rattle.tpm_model.specs.Callers.{opened_response, opened, caller_of_refusal, given_up}
use Rattle.tpm_model.specs.Premises.{HasSpelling, IsPresent, nonce_bytes, most_nonce, IsReady, rolled, opened_as}
use Rattle.tpm_model.proofs.Accepted.{Passed, passed, next_is}
use Rattle.tpm_model.proofs.Spelled.{spelled_by}
use Rattle.tpm_model.proofs.Sealing.{has_spelling, loaded_handle, Met, met, met_needs, passes}
use Rattle.tpm_model.proofs.Refused.{refused_with}
use Rattle.tpm_model.proofs.StillInStep.{still}
use Rattle.tpm_model.proofs.Replies.{IsReply, own_reply, read_again_as}

-- ---- what was done

-- the session of the reply
abbrev pub replied : Seal → ReplyBody → List ℕ → AuthReply
replied s body n = record {
  nonce = take (length s.caller.nonce) n;
  attrs = attrs_for s.keep;
  hmac =
      hmac s.caller.hash (seal_key s)
      (reply_text s.caller.hash (code_for s.body) (reply_params body) (take (length s.caller.nonce) n) s.nonce (attrs_for s.keep));
}

reply_is : (p : Present) (s : Seal) (x : Presented) (m : Met p s x) (body : ReplyBody) (n : List ℕ)
    → reply_auths x.evidence x.code (reply_params body) n ≡ replied s body n ∷ []
reply_is p s x m body n = rw (m.evidence, met_needs p s x m, m.agrees.hash, m.key, m.auth, m.code, m.agrees.length) refl

pub record Trip (p : Present) (s : Seal) (n : List ℕ) (d : Done) : Type 0 where
  pub done : Passed p (sealed s) n d
  pub met : Met p s done.x
  pub command : d.command ≡ sealed_command s
  pub own : IsReply s.body d.reply.body
  pub reply : d.reply ≡ record { body = d.reply.body; auths = replied s d.reply.body n ∷ [] }

abbrev with_replies : ReplyBody → List AuthReply → Reply
with_replies body auths = record { body = body; auths = auths }

trip : (p : Present) (s : Seal) (n : List ℕ) (d : Done) (y : Session) → HasSpelling s → loaded p.sessions s.caller.handle ≡ Some y → Agrees s.caller y
    → IsPresent p s
    → outcome p (sealed s) n ≡ Ok d → Trip p s n d
trip p s n d y fits is agrees here e =
    let done = passed p (sealed s) n d e in
    let m = met p s done.x y fits is agrees here done.asked in
    let reading = exactly_one buffer buffer_sound command (sealed s) in
    let one : d.command ≡ sealed_command s =
    reading.one_value d.command (sealed_command s) (spelled_by p (sealed s) n d done) (has_spelling (sealed_command s) fits) in
    let same = ap (λ (c : Command). c.body) one in
    record {
      done = done;
      met = m;
      command = one;
      own = own_reply p s.body n d.reply.body m.needs (ap (λ b. action p b n) (sym same) ∙ done.act);
      reply = ap (with_replies d.reply.body) (done.replied ∙ reply_is p s done.x m d.reply.body n);
    }

-- ---- opening

keep_small : (keep : Bool) → attrs_for keep < 256
keep_small true = omega arith
keep_small false = omega arith

keep_attrs : (keep : Bool) → is_session_attrs (attrs_for keep) ≡ true
keep_attrs true = refl
keep_attrs false = refl

pub open_is : (w : Waiting) (body : ReplyBody) (a : AuthReply) → length a.nonce ≡ length w.caller.nonce
    → a.hmac ≡ hmac w.caller.hash w.key (awaited_text w body a)
    → opened_session w body (a ∷ []) ≡ Ok (record { caller = caller_after w a; response = done_with (record { body = body; auths = a ∷ [] }) })
open_is w body a l m =
    let long = eq-eqb (length a.nonce) (length w.caller.nonce) l in
    let mac = (bytes_eq-Decides a.hmac (hmac w.caller.hash w.key (awaited_text w body a))).1 m in
    rw (long, mac) refl

open_trip : (o : Origin) (h : History) (s : Seal) (n : List ℕ) (d : Done) → length s.caller.nonce ≤ most_nonce → length n ≡ nonce_bytes
    → outcome (present o h) (sealed s) n ≡ Ok d → Trip (present o h) s n d
    → opened (waiting s) (answer o h (sealed s) n) ≡ Ok (opened_as s d n)
open_trip o h s n d short whole e t =
    let w = waiting s in
    let a = replied s d.reply.body n in
    let r : Reply = record { body = d.reply.body; auths = a ∷ [] } in
    let long : length a.nonce ≡ length s.caller.nonce = omega (arith, length-take (length s.caller.nonce) n) in
    let mac_short : length a.hmac ≤ most_nonce =
    omega (
      arith,
      digest_most s.caller.hash,
      length-hmac s.caller.hash (seal_key s)
          (reply_text s.caller.hash (code_for s.body) (reply_params d.reply.body) (take (length s.caller.nonce) n) s.nonce (attrs_for s.keep)),
    )
    in
    let bytes_are : answer o h (sealed s) n ≡ spelling (response (code_for s.body)) (done_with r) =
    ap answered e ∙ ap (λ (c : Command). spelling (response (code_for c.body)) (done_with d.reply)) t.command
    ∙ ap (λ (q : Reply). spelling (response (code_for s.body)) (done_with q)) t.reply in
    let read_it =
    ap (read_all (response (code_for s.body))) bytes_are
    ∙ read_again_as s.body d.reply.body a t.own (omega arith) mac_short (keep_small s.keep) (keep_attrs s.keep) in
    ap (opened_response w) read_it ∙ open_is w d.reply.body a long refl
    ∙ ap
    (λ (q : Reply).
    let z : Result Opened CallerFault = Ok (record { caller = if s.keep then Some (rolled s.caller n) else None; response = done_with q }) in z)
    (sym t.reply)

-- ---- what is refused

code_read : (code : CommandCode) (n : ℕ) → 0 < n → n < 2 ^ 32 → read_all (response code) (answered (Err n)) ≡ Ok (responses.Code n)
code_read code n some small =
    spells_read buffer buffer_sound (response code) (answered (Err n)) (responses.Code n)
    (code_spelled code n (answered (Err n)) some small (code_text codes.Startup n some))

-- ---- the laws

pub last_check : (o : Origin) (h : History) (s : Seal) (x : Presented) → IsReady o h s → presented (present o h) (sealed s) ≡ Ok x
    → check_evidence x.entity x.evidence ≡ Ok tt
last_check o h s x r asked =
    let i = r.in_step in passes (present o h) s x (met (present o h) s x i.0 r.spelled i.1 i.2 r.present asked)

pub opens : (o : Origin) (h : History) (s : Seal) (n : List ℕ) (d : Done) → IsReady o h s → length s.caller.nonce ≤ most_nonce → length n ≡ nonce_bytes
    → outcome (present o h) (sealed s) n ≡ Ok d → opened (waiting s) (answer o h (sealed s) n) ≡ Ok (opened_as s d n)
opens o h s n d r short whole e =
    let i = r.in_step in open_trip o h s n d short whole e (trip (present o h) s n d i.0 r.spelled i.1 i.2 r.present e)

pub keeps : (o : Origin) (h : History) (s : Seal) (n : List ℕ) (d : Done) → IsReady o h s → length s.caller.nonce ≤ most_nonce → length n ≡ nonce_bytes
    → s.keep ≡ true
    → outcome (present o h) (sealed s) n ≡ Ok d → InStep o (next o h (sealed s) n) (rolled s.caller n)
keeps o h s n d r short whole keep e =
    let i = r.in_step in
    let t = trip (present o h) s n d i.0 r.spelled i.1 i.2 r.present e in
    let needs : needs_authorization (code_for d.command.body) ≡ true = ap (λ (c : Command). needs_authorization (code_for c.body)) t.command ∙ t.met.needs in
    subst (λ g. InStep o g (rolled s.caller n)) (sym (next_is o h (sealed s) n d e))
    (still o h s.caller i.0 d.command d.reply n (seal_auth s) i.1 i.2 (loaded_handle (sessions_at o h) s.caller.handle i.0 i.1) whole short needs
    (ap (λ (c : Command). c.auths.items) t.command) refl (ap attrs_for keep))

-- A refusal is read as its code, whatever it answers.
pub refused_read : (o : Origin) (h : History) (c : CommandCode) (bytes n : List ℕ) (code : ℕ) → outcome (present o h) bytes n ≡ Err code
    → read_all (response c) (answer o h bytes n) ≡ Ok (responses.Code code)
refused_read o h c bytes n code e =
    let k = refused_with (present o h) bytes n code e in
    ap (λ (r : Result Done ℕ). read_all (response c) (answered r)) e ∙ code_read c code k.0 k.1

pub stays : (o : Origin) (h : History) (s : Seal) (n : List ℕ) (code : ℕ) → InStep o h s.caller → outcome (present o h) (sealed s) n ≡ Err code
    → (opened (waiting s) (answer o h (sealed s) n) ≡ Err (Code code)) × (given_up (waiting s) (answer o h (sealed s) n) ≡ Some s.caller)
    × InStep o (next o h (sealed s) n) s.caller
stays o h s n code i e =
    let read_it = refused_read o h (code_for s.body) (sealed s) n code e in
    (ap (opened_response (waiting s)) read_it, ap (caller_of_refusal (waiting s)) read_it, subst (λ g. InStep o g s.caller) (sym (ap (with_outcome h n) e)) i)
