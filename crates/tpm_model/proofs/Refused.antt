-- What is not done is refused with a code.
use Rattle.std.proofs.Common.{◌≡◌, ℕ, suc, ◌+◌, ◌<◌, List, [], ◌∷◌, length, Result, Ok, Err, Option, Some, None, Bool}
use Rattle.std.proofs.Common.{true, false, not, sym, ap, ◌∙◌, subst, arith}
use Rattle.std.specs.Prelude.{if◌then◌else◌, ◌==◌}
use Rattle.tpm_wire.specs.declared.refusal.Refusal.{Refusal}
use Rattle.tpm_wire.specs.Buffers.{Layout, number_in, numbered}
use Rattle.tpm_wire.specs.Token.{Here, at_start}
use Rattle.tpm_wire.specs.Reading.{read, read_all, ◌>>=◌}
use Rattle.tpm_wire.specs.ResponseCodes.{rc_value, of_handle}
use Rattle.tpm_wire.proofs.Agreement.{bind_ok}
use Rattle.tpm_types.specs.declared.tpms.Auth.{Auth}
use Rattle.tpm_types.specs.Handles.{rs_pw, is_policy, is_nv_index}
use Rattle.tpm_types.specs.Tpma.{no_da, audits_or_encrypts}
use Rattle.tpm_commands.specs.declared.command_handles.HandleKind.{HandleKind}
use Rattle.tpm_types.specs.declared.command_code.CommandCode.{CommandCode}
use Rattle.tpm_types.specs.CommandCodes.{code_number}
use Rattle.tpm_commands.specs.Handles.{admits, first, handle_kinds, handles_from, handles, needs_authorization}
use Rattle.tpm_commands.specs.Parameters.{parameters}
use Rattle.tpm_types.specs.declared.command_code.CommandCode.TheVariants as codes
use Rattle.tpm_buffer.specs.Commands.{header, authorization, body_from}
use Rattle.tpm_model.specs.Sessions.{Session, is_hmac, loaded}
use Rattle.tpm_model.specs.Present.{Present}
use Rattle.tpm_model.specs.Entities.{Entity, Register, Index, entity_of, names_of}
use Rattle.tpm_model.specs.Authorization.{is_empty, differs, has_policy, Authorizer, Password, BySession, by_session}
use Rattle.tpm_model.specs.Authorization.{check_loaded, check_no_trial, check_no_nonce, check_session, check_auth}
use Rattle.tpm_model.specs.Authorization.{check_policy_allowed, check_policy, check_entity, evidence_of, Evidence}
use Rattle.tpm_model.specs.Authorization.{NotAsked, ByPassword, ByMac, failure, check_evidence, first_loaded}
use Rattle.tpm_model.specs.Actions.{action}
use Rattle.tpm_model.specs.Answers.{code_only, by_grammar, check_started, check_handle, check_handles, check_tag}
use Rattle.tpm_model.specs.Answers.{Presented, evidence_in, presented, permitted, performed, outcome}
use Rattle.tpm_model.proofs.Nonzero.{IsAnswered, IfRefused, IsCoded, read_coded, read_all_coded}
use Rattle.tpm_model.proofs.Coded.{coded_header, few_kinds, coded_handles, coded_authorization}
use Rattle.tpm_model.proofs.Spelled.{code_ok}
use Rattle.tpm_model.proofs.EachCommand.{IfErr, not_refused, with_code, its_code, next_too, afterwards, tested}
use Rattle.tpm_model.proofs.EachCommand.{test_first, one_of, coded_parameters, acted}

of_code : {A : Type 0} (r : Result A Refusal) → IfRefused r → IfErr (code_only r)
of_code (Ok x) c = not_refused
of_code (Err e) c = with_code c

grammar : {A : Type 0} (l : Layout A) (h : Here) → IsCoded l → IfErr (by_grammar l h)
grammar l h c = of_code (read 0 l h) (read_coded 0 l h (omega arith) c)

-- ---- before the authorization

start_checked : (started : Bool) (code : CommandCode) → IfErr (check_started started code)
start_checked started codes.Startup = tested started 0x100 (omega arith, omega arith)
start_checked started _ = tested (not started) 0x100 (omega arith, omega arith)

handle_checked : (p : Present) (i n : ℕ) → 0 < i → i < 256 → IfErr (check_handle p i n)
handle_checked p i n some small =
    one_of (is_policy n) _ _ (tested _ _ (omega (arith, some), omega (arith, small)))
    (one_of (is_nv_index n) _ _ (tested _ _ (omega (arith, some), omega (arith, small))) not_refused)

handles_checked : (p : Present) (i : ℕ) (ns : List ℕ) → 0 < i → i + length ns < 256 → IfErr (check_handles p i ns)
handles_checked p i [] some small = not_refused
handles_checked p i (n ∷ ns) some small =
    next_too (check_handle p i n) _ (handle_checked p i n some (omega (arith, small))) (λ _. handles_checked p (i + 1) ns (omega arith) (omega (arith, small)))

abbrev pub handles_read : List ℕ → Here → Result (List ℕ × Here) Refusal
handles_read ns h = Ok (ns, h)

pub same_list : (ns ms : List ℕ) (g h : Here) → handles_read ns g ≡ handles_read ms h → ns ≡ ms
same_list ns ms g h e = let both : (ns, g) ≡ (ms, h) = cc in ap (λ (x : List ℕ × Here). x.0) both

as_many_kinds : (i : ℕ) (kinds : List HandleKind) (h : Here) (x : List ℕ × Here) → read 0 (handles_from i kinds) h ≡ Ok x → length x.0 ≡ length kinds
as_many_kinds i [] h x e = ap length (sym (same_list [] x.0 h x.1 e))
as_many_kinds i (kind ∷ kinds) h x e =
    let a =
    bind_ok (read 0 (numbered (of_handle i) (number_in 4 (admits kind) rc_value)) h)
    (λ y. read 0 (handles_from (i + 1) kinds) y.1 >>= λ z. handles_read (y.0 ∷ z.0) z.1) x e in
    let b = bind_ok (read 0 (handles_from (i + 1) kinds) a.0.1) (λ z. handles_read (a.0.0 ∷ z.0) z.1) x a.2 in
    let rest = as_many_kinds (i + 1) kinds a.0.1 b.0 b.1 in
    ap length (sym (same_list (a.0.0 ∷ b.0.0) x.0 b.0.1 x.1 b.2)) ∙ ap suc rest

few_handles : (code : CommandCode) (h : Here) (x : List ℕ × Here) → by_grammar (handles code) h ≡ Ok x → 1 + length x.0 < 256
few_handles code h x e = omega (arith, as_many_kinds 1 (handle_kinds code) h x (code_ok _ x e), few_kinds code)

tag_checked : (code : CommandCode) (tag : ℕ) → IfErr (check_tag code tag)
tag_checked code tag = one_of (needs_authorization code) _ _ (tested _ _ (omega arith, omega arith)) (tested _ _ (omega arith, omega arith))

-- ---- the authorization

session_checked : (by : Authorizer) (a : Auth) (others : List Auth) → IfErr (check_session by a others)
session_checked by a others =
    test_first (audits_or_encrypts a.attrs) 0x982 _ (omega arith, omega arith)
    (λ _.
    next_too (check_no_trial by) _ (no_trial by)
    (λ _. next_too (check_no_nonce by a.nonce) _ (no_nonce by) (λ _. tested (not (is_empty others)) 0xA82 (omega arith, omega arith))))
  where
    no_trial : (by : Authorizer) → IfErr (check_no_trial by)
    no_trial Password = not_refused
    no_trial (BySession s) = tested _ _ (omega arith, omega arith)

    no_nonce : (by : Authorizer) → IfErr (check_no_nonce by a.nonce)
    no_nonce Password = tested _ _ (omega arith, omega arith)
    no_nonce (BySession s) = not_refused

auth_checked : (e : Entity) (code : CommandCode) → IfErr (check_auth e code)
auth_checked (Index public auth) code = tested _ _ (omega arith, omega arith)
auth_checked _ code = not_refused

policy_allowed : (e : Entity) (code : CommandCode) → IfErr (check_policy_allowed e code)
policy_allowed (Index public auth) code = tested _ _ (omega arith, omega arith)
policy_allowed _ code = with_code (omega arith, omega arith)

policy_checked : (e : Entity) (code : CommandCode) (n : ℕ) (s : Session) → IfErr (check_policy e code n s)
policy_checked e code n s =
    next_too (check_policy_allowed e code) _ (policy_allowed e code) (λ _.
    test_first (differs s.policy.update_counter n) 0x128 _ (omega arith, omega arith)
    (λ _. test_first (not (has_policy e s)) 0x99D _ (omega arith, omega arith) (λ _.
    tested (differs s.policy.code (code_number code)) 0x9A4 (omega arith, omega arith))))

entity_checked : (by : Authorizer) (e : Entity) (code : CommandCode) (n : ℕ) → IfErr (check_entity by e code n)
entity_checked Password e code n = auth_checked e code
entity_checked (BySession s) e code n = one_of (is_hmac s.session_type) _ _ (auth_checked e code) (policy_checked e code n s)

session_loaded : (handle : ℕ) (s : Option Session) → IfErr (check_loaded handle s)
session_loaded handle s = one_of (handle == rs_pw) _ _ not_refused (found s)
  where
    found : (s : Option Session) → IfErr (by_session s)
    found None = with_code (omega arith, omega arith)
    found (Some s) = not_refused

proof_found : (s : Option Session) (e : Entity) (code : CommandCode) (names : List (List ℕ)) (params : List ℕ) (n : ℕ) (auths : List Auth)
    → IfErr (evidence_of s e code names params n auths)
proof_found s e code names params n [] = not_refused
proof_found s e code names params n (a ∷ others) =
    next_too (check_loaded a.session s) _ (session_loaded a.session s)
    (λ by.
    next_too (check_session by a others) _ (session_checked by a others)
    (λ _. next_too (check_entity by e code n) _ (entity_checked by e code n) (λ _. not_refused)))

failure_is : (e : Entity) → IsAnswered (failure e)
failure_is (Index public auth) = go (no_da public.attrs)
  where
    go : (b : Bool) → IsAnswered ((if b then 0x0A2 else 0x08E) + 0x900)
    go true = (omega arith, omega arith)
    go false = (omega arith, omega arith)
failure_is Register = (omega arith, omega arith)
failure_is _ = (omega arith, omega arith)

proof_checked : (e : Entity) (x : Evidence) → IfErr (check_evidence e x)
proof_checked e NotAsked = not_refused
proof_checked e (ByPassword given wanted) = tested _ _ (failure_is e)
proof_checked e (ByMac x) = tested _ _ (failure_is e)

-- ---- the whole

was_presented : (p : Present) (bytes : List ℕ) → IfErr (presented p bytes)
was_presented p bytes =
    next_too (by_grammar header (at_start bytes)) _ (grammar header (at_start bytes) coded_header) (λ head.
    next_too (check_started p.started head.0.code) _ (start_checked p.started head.0.code) (λ _.
    afterwards (by_grammar (handles head.0.code) head.1) _ (grammar (handles head.0.code) head.1 (coded_handles head.0.code)) (λ list is.
    next_too (check_handles p 1 list.0) _ (handles_checked p 1 list.0 (omega arith) (few_handles head.0.code head.1 list is)) (λ _.
    next_too (check_tag head.0.code head.0.tag) _ (tag_checked head.0.code head.0.tag) (λ _.
    next_too (by_grammar (authorization head.0.tag) list.1) _ (grammar (authorization head.0.tag) list.1 (coded_authorization head.0.tag)) (λ auths.
    next_too (evidence_in p head.0.code list.0 auths.1.rest auths.0) _
    (proof_found (first_loaded (loaded p.sessions) auths.0) (entity_of p (first list.0)) head.0.code (names_of p list.0) auths.1.rest
    p.registers.update_counter auths.0)
    (λ _. not_refused)))))))

was_permitted : (p : Present) (bytes : List ℕ) → IfErr (permitted p bytes)
was_permitted p bytes =
    next_too (presented p bytes) _ (was_presented p bytes)
    (λ x. next_too (check_evidence x.entity x.evidence) _ (proof_checked x.entity x.evidence) (λ _. not_refused))

was_performed : (p : Present) (n : List ℕ) (x : Presented) → IfErr (performed p n x)
was_performed p n x =
    next_too (code_only (read_all (parameters x.code) x.params)) _
    (of_code (read_all (parameters x.code) x.params) (read_all_coded (parameters x.code) x.params (coded_parameters x.code)))
    (λ params. next_too (action p (body_from x.handles params) n) _ (acted p (body_from x.handles params) n) (λ _. not_refused))

pub refused_with : (p : Present) (bytes n : List ℕ) (code : ℕ) → outcome p bytes n ≡ Err code → IsAnswered code
refused_with p bytes n code e = its_code (subst IfErr e (next_too (permitted p bytes) (performed p n) (was_permitted p bytes) (λ x. was_performed p n x)))
