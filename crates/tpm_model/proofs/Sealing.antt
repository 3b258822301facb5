-- What the device reads of a sealed command, and what it checks there.
use Rattle.std.proofs.Common.{◌≡◌, ℕ, ◌+◌, ◌-◌, ◌<◌, List, [], ◌∷◌, ◌++◌, length, Result, Ok, Some, Option, Bool, true}
use Rattle.std.proofs.Common.{false, not, ◌||◌, refl, sym, ap, ◌∙◌, subst, arith, length-append}
use Rattle.std.proofs.lemmas.List.{append-nil}
use Rattle.std.proofs.lemmas.Slice.Eq.{bytes_eq-Decides}
use Rattle.std.specs.Prelude.{if◌then◌else◌, bytes_eq}
use Rattle.tpm_wire.specs.declared.refusal.Refusal.{Refusal}
use Rattle.tpm_wire.specs.Buffers.{buffer, Layout}
use Rattle.tpm_wire.specs.Token.{Here, at_start}
use Rattle.tpm_wire.specs.Reading.{read}
use Rattle.tpm_wire.specs.Spelling.{spelling, Fits}
use Rattle.tpm_wire.specs.Path.{Spells}
use Rattle.tpm_wire.specs.ResponseCodes.{rc_auth_context, rc_auth_missing}
use Rattle.tpm_wire.proofs.Buffers.{buffer_sound, buffer_roomy}
use Rattle.tpm_wire.proofs.Again.{again, read_again}
use Rattle.tpm_wire.proofs.Whole.{read_spells}
use Rattle.tpm_commands.specs.declared.command.Command.{Command}
use Rattle.tpm_types.specs.declared.command_code.CommandCode.{CommandCode}
use Rattle.tpm_commands.specs.Handles.{handles, needs_authorization, first}
use Rattle.tpm_types.specs.CommandCodes.{code_number}
use Rattle.tpm_buffer.specs.Commands.{header, authorization, Checked, before_params, command, code_for, handles_of}
use Rattle.tpm_buffer.specs.Commands.{header_of, rest_of}
use Rattle.tpm_types.specs.declared.tpms.Auth.{Auth}
use Rattle.tpm_types.specs.declared.alg.Alg.{Alg}
use Rattle.tpm_types.specs.Handles.{is_session, is_hmac_session, is_policy}
use Rattle.tpm_types.proofs.Algs.{digest_some}
use Rattle.tpm_hmac.specs.Hmac.{hmac}
use Rattle.tpm_hmac.specs.Sessions.{trim, whole_key, cp_hash, mac_text}
use Rattle.tpm_hmac.proofs.DigestLengths.{length-hmac}
use Rattle.tpm_model.specs.Sessions.{Session, session_in, loaded, slot_of, is_hmac}
use Rattle.tpm_model.specs.Present.{Present}
use Rattle.tpm_model.specs.Entities.{Entity, entity_of, names_of}
use Rattle.tpm_model.specs.Authorization.{refuse, is_empty, evidence_of, check_evidence, first_loaded, failure, Signed}
use Rattle.tpm_model.specs.Authorization.{command_text, needs_none, is_signed, follows, key_for, ByMac}
use Rattle.tpm_model.specs.Answers.{Presented, presented, check_tag}
use Rattle.tpm_model.specs.InStep.{CallerSession, Agrees}
use Rattle.tpm_model.specs.Callers.{Seal, attrs_for, command_params, seal_key, seal_text, seal_auth, sealed_command}
use Rattle.tpm_model.specs.Callers.{sealed}
use Rattle.tpm_model.specs.Premises.{HasSpelling, asked_for, IsPresent}
use Rattle.tpm_model.proofs.Accepted.{some_is}
use Rattle.tpm_model.proofs.Slots.{of_kind}
use Rattle.tpm_model.proofs.Spelled.{was_read, read_in_turn}
use Rattle.tpm_model.proofs.Replay.{by_its_session, both_false, some_bytes}

-- ---- reading what is spelled

abbrev place : List ℕ → ℕ → Here
place rest at = record { rest = rest; at = at }

-- what fits behind a part that was read
behind : {A : Type 0} (l : Layout A) (x : A) (one two : List ℕ) → Fits (length (one ++ two) - length one) l x → Fits (length two) l x
behind l x one two f = subst (λ (k : ℕ). Fits k l x) (omega (arith, length-append one two)) f

-- how a command that is spelled is read before its parameters
pub record IsReadAs (c : Command) : Type 0 where
  pub at : ℕ
  pub is : read 0 before_params (at_start (spelling command c))
      ≡ Ok (record { header = header_of c; handles = handles_of c.body; auths = c.auths.items }, record { rest = command_params c.body; at = at })

pub read_as : (c : Command) → Fits (length (spelling command c)) command c → IsReadAs c
unfolding command
read_as c f =
    let h = header_of c in
    let one = spelling header h in
    let two = spelling (handles h.code) (handles_of c.body) in
    let three = spelling (authorization h.tag) c.auths.items in
    let params = command_params c.body in
    let four = params ++ [] in
    let a = again buffer buffer_roomy 0 header h (two ++ (three ++ four)) 0 f.0 in
    let g = behind (rest_of h.code h.tag) c one (two ++ (three ++ four)) f.1 in
    let b = again buffer buffer_roomy 0 (handles h.code) (handles_of c.body) (three ++ four) (0 + length one) g.0 in
    let i = behind (authorization h.tag) c.auths.items two (three ++ four) g.1.0 in
    let e = again buffer buffer_roomy 0 (authorization h.tag) c.auths.items four (0 + length one + length two) i in
    let at = 0 + length one + length two + length three in
    let read_all =
    read_in_turn (one ++ (two ++ (three ++ four))) (h, place (two ++ (three ++ four)) (0 + length one))
    (handles_of c.body, place (three ++ four) (0 + length one + length two))
    (c.auths.items, place four at) a b e in
    record {
      at = at;
      is =
          subst
          (λ (rest : List ℕ).
          read 0 before_params (at_start (one ++ (two ++ (three ++ four))))
          ≡ Ok (record { header = h; handles = handles_of c.body; auths = c.auths.items }, place rest at))
          (append-nil params) read_all;
    }

pub has_spelling : (c : Command) → Fits (length (spelling command c)) command c → Spells command c (spelling command c)
has_spelling c f = read_spells buffer buffer_sound command (spelling command c) c (read_again buffer buffer_roomy command c f)

abbrev pub okay : {A E : Type 0} → A → Result A E
okay x = Ok x

pub okay_is : {A E : Type 0} (x y : A) → okay {E = E} x ≡ okay y → x ≡ y
okay_is x y e = cc

-- ---- the session of a handle

session_by : (by_hmac hmac policy : Bool) → (if by_hmac then hmac else policy) ≡ true → (hmac || policy) ≡ true
session_by true true policy e = refl
session_by false true policy e = refl
session_by false false policy e = e
session_by _ _ policy e = absurd (let z : ⊥ = cc in z)

-- The handle of a session that is loaded is a session's.
pub loaded_handle : (sessions : List (Option Session)) (handle : ℕ) (s : Session) → loaded sessions handle ≡ Some s → is_session handle ≡ true
loaded_handle sessions handle s e =
    session_by (is_hmac s.session_type) (is_hmac_session handle) (is_policy handle) (of_kind handle (session_in sessions (slot_of handle)) s e).1

-- ---- the HMAC of a sealed command

pub hmac_some : (a : Alg) (key text : List ℕ) → 0 < length (hmac a key text)
hmac_some a key text = omega (arith, length-hmac a key text, digest_some a)

-- what the device finds of a sealed command, before it compares the HMAC
pub record Met (p : Present) (s : Seal) (x : Presented) : Type 0 where
  pub signed : Signed
  pub evidence : x.evidence ≡ ByMac signed
  pub is : loaded p.sessions s.caller.handle ≡ Some signed.session
  pub agrees : Agrees s.caller signed.session
  pub auth : signed.auth ≡ seal_auth s
  pub key : signed.key ≡ seal_key s
  pub text : command_text signed ≡ seal_text s
  pub code : x.code ≡ code_for s.body
  pub auths : x.auths ≡ seal_auth s ∷ []
  pub needs : needs_authorization (code_for s.body) ≡ true

tagged : (needs : Bool) → (if needs then refuse false rc_auth_missing else refuse true rc_auth_context) ≡ Ok tt → needs ≡ true
tagged true e = refl
tagged false e = absurd (let z : ⊥ = cc in z)

one_key : (c : CallerSession) (y : Session) (e : Entity) (auth : List ℕ) → Agrees c y → trim auth ≡ trim (follows y e) → key_for y e ≡ whole_key c.key auth
one_key c y e auth a t = ap (λ (k : List ℕ). k ++ trim (follows y e)) a.key ∙ ap (λ (v : List ℕ). c.key ++ v) (sym t)

one_text : (c : CallerSession) (y : Session) (code code' : CommandCode) (names names' : List (List ℕ)) (params params' nonce : List ℕ) (attrs : ℕ) → Agrees c y
    → code ≡ code' → names ≡ names' → params ≡ params'
    → mac_text (cp_hash y.hash (code_number code) names params) nonce y.nonce attrs
    ≡ mac_text (cp_hash c.hash (code_number code') names' params') nonce c.nonce attrs
one_text c y code code' names names' params params' nonce attrs a k n q = rw (a.hash, k, n, q, a.nonce) refl

pub met : (p : Present) (s : Seal) (x : Presented) (y : Session) → HasSpelling s → loaded p.sessions s.caller.handle ≡ Some y → Agrees s.caller y
    → IsPresent p s
    → presented p (sealed s) ≡ Ok x → Met p s x
met p s x y fits is agrees present asked =
    let c = sealed_command s in
    let r = was_read p (sealed s) x asked in
    let q = read_as c fits in
    let want : Checked = record { header = header_of c; handles = handles_of s.body; auths = seal_auth s ∷ [] } in
    let there : Here = record { rest = command_params s.body; at = q.at } in
    let same : (r.before, r.place) ≡ (want, there) = okay_is {E = Refusal} (r.before, r.place) (want, there) (sym r.is ∙ q.is) in
    let before = ap (λ (z : Checked × Here). z.0) same in
    let rest = ap (λ (z : Checked × Here). z.1.rest) same in
    let code : x.code ≡ code_for s.body = r.code ∙ ap (λ (z : Checked). z.header.code) before in
    let list : x.handles ≡ handles_of s.body = r.handles ∙ ap (λ (z : Checked). z.handles) before in
    let auths : x.auths ≡ seal_auth s ∷ [] = r.auths ∙ ap (λ (z : Checked). z.auths) before in
    let params : x.params ≡ command_params s.body = r.params ∙ rest in
    let a = seal_auth s in
    let e = entity_of p (first x.handles) in
    let names = names_of p x.handles in
    let evidence : evidence_of (loaded p.sessions a.session) e x.code names x.params p.registers.update_counter (a ∷ []) ≡ Ok x.evidence =
    subst (λ l. evidence_of (first_loaded (loaded p.sessions) l) e x.code names x.params p.registers.update_counter l ≡ Ok x.evidence) auths r.evidence in
    let found =
    by_its_session (loaded p.sessions a.session) e x.code names x.params p.registers.update_counter a [] x.evidence
    (loaded_handle p.sessions s.caller.handle y is) evidence in
    let one : found.0 ≡ y = some_is found.0 y (sym found.1 ∙ is) in
    let agree : Agrees s.caller found.0 = subst (Agrees s.caller) (sym one) agrees in
    let follow : trim s.auth ≡ trim (follows found.0 e) =
    present.auth ∙ ap (λ z. trim (asked_for z (entity_of p (first (handles_of s.body))))) found.1
    ∙ ap (λ (l : List ℕ). trim (follows found.0 (entity_of p (first l)))) (sym list) in
    record {
      signed = record { session = found.0; key = key_for found.0 e; p_hash = cp_hash found.0.hash (code_number x.code) names x.params; auth = a };
      evidence = found.2;
      is = found.1;
      agrees = agree;
      auth = refl;
      key = one_key s.caller found.0 e s.auth agree follow;
      text =
          one_text s.caller found.0 x.code (code_for s.body) names s.names x.params (command_params s.body) s.nonce (attrs_for s.keep) agree code
          (ap (names_of p) list ∙ sym present.names) params;
      code = code;
      auths = auths;
      needs = tagged (needs_authorization (code_for s.body)) (subst (λ (z : Checked). check_tag z.header.code z.header.tag ≡ Ok tt) before r.tag);
    }

met_mac : (p : Present) (s : Seal) (x : Presented) (m : Met p s x)
    → hmac m.signed.session.hash m.signed.key (command_text m.signed) ≡ hmac s.caller.hash (seal_key s) (seal_text s)
met_mac p s x m = rw (m.agrees.hash, m.key, m.text) refl

-- A sealed command has an HMAC.
pub met_needs : (p : Present) (s : Seal) (x : Presented) (m : Met p s x) → needs_none m.signed ≡ false
met_needs p s x m =
    both_false (is_empty m.signed.key) (is_empty m.signed.auth.hmac)
    (some_bytes m.signed.auth.hmac (subst (λ (a : Auth). 0 < length a.hmac) (sym m.auth) (hmac_some s.caller.hash (seal_key s) (seal_text s))))

-- ---- The last check does not fail.

signed_by : (b : Bool) (given wanted : List ℕ) → given ≡ wanted → (if b then true else bytes_eq given wanted) ≡ true
signed_by true given wanted e = refl
signed_by false given wanted e = (bytes_eq-Decides given wanted).1 e

pub passes : (p : Present) (s : Seal) (x : Presented) → Met p s x → check_evidence x.entity x.evidence ≡ Ok tt
passes p s x m =
    let same : m.signed.auth.hmac ≡ hmac m.signed.session.hash m.signed.key (command_text m.signed) =
    ap (λ (a : Auth). a.hmac) m.auth ∙ sym (met_mac p s x m) in
    let signs : is_signed m.signed ≡ true =
    signed_by (needs_none m.signed) m.signed.auth.hmac (hmac m.signed.session.hash m.signed.key (command_text m.signed)) same in
    ap (check_evidence x.entity) m.evidence ∙ ap (λ b. refuse (not b) (failure x.entity)) signs
