-- What an authorized command says of its evidence, and the session of its reply.
use Rattle.std.proofs.Common.{◌≡◌, ℕ, Bool, true, false, List, [], ◌∷◌, ◌&&◌, Option, Some, None, Result, Ok, Err}
use Rattle.std.proofs.Common.{IsSome, refl, sym, ap, ◌∙◌}
use Rattle.std.proofs.lemmas.Bool.{both_ways}
use Rattle.std.specs.Prelude.{if◌then◌else◌}
use Rattle.tpm_wire.specs.Reading.{◌>>=◌}
use Rattle.tpm_types.specs.declared.tpms.Auth.{Auth}
use Rattle.tpm_types.specs.declared.tpms.AuthReply.{AuthReply}
use Rattle.tpm_types.specs.declared.command_code.CommandCode.{CommandCode}
use Rattle.tpm_types.specs.CommandCodes.{code_number}
use Rattle.tpm_hmac.specs.Sessions.AuthValueRule.{ByHmac, ByPolicy}
use Rattle.tpm_hmac.specs.Sessions.{included_auth_value, whole_key, cp_hash}
use Rattle.tpm_model.specs.Sessions.{Session, is_hmac, loaded, session_in, slot_of, if_of_kind, is_handle_of}
use Rattle.tpm_model.specs.Entities.{Entity, auth_value, is_owner_entity}
use Rattle.tpm_model.specs.Authorization.Authorizer.{BySession, Password}
use Rattle.tpm_model.specs.Authorization.Evidence.{ByMac}
use Rattle.tpm_model.specs.Authorization.{Authorizer, Evidence, by_session, check_loaded, check_session, check_entity}
use Rattle.tpm_model.specs.Authorization.{check_evidence, evidence_by, evidence_of, key_for, authorize, reply_auths}
use Rattle.tpm_model.specs.Authorization.{password_reply, Signed}
use Rattle.tpm_session.specs.Entities.{IsNamed, with_session, Claim, authorized as authorized_by}

-- ---- the evidence of a command that is authorized

both_met : {A : Type 0} (r : Result A ℕ) (check : A → Result (Unit {0}) ℕ) → (r >>= check) ≡ Ok tt → (x : A) × (r ≡ Ok x) × (check x ≡ Ok tt)
both_met (Ok x) check met = (x, refl, met)
both_met (Err code) check met = absurd (cc)

-- A command that is authorized has evidence, and the evidence is right.
pub authorized : (s : Option Session) (e : Entity) (code : CommandCode) (names : List (List ℕ)) (params : List ℕ) (counter : ℕ) (auths : List Auth) →
    authorize s e code names params counter auths ≡ Ok tt
    → (x : Evidence) × (evidence_of s e code names params counter auths ≡ Ok x) × (check_evidence e x ≡ Ok tt)
authorized s e code names params counter auths met = both_met (evidence_of s e code names params counter auths) (check_evidence e) met

-- ---- the session of the reply

past : {A : Type 0} (first second : Result (Unit {0}) ℕ) (x y : A) → (first >>= λ _. (second >>= λ _. Ok x)) ≡ Ok y → y ≡ x
past (Ok u) (Ok v) x y is = cc
past (Ok u) (Err code) x y is = absurd (cc)
past (Err code) second x y is = absurd (cc)

-- ---- who authorizes

kept : (is : Bool) (s : Session) → IsSome (if is then Some s else None) → Some s ≡ (if is then Some s else None)
kept true s some = refl
kept false s some = absurd (both_ways false refl some)

in_its_slot : (handle : ℕ) (s : Option Session) → IsSome (if_of_kind handle s) → s ≡ if_of_kind handle s
in_its_slot handle None some = refl
in_its_slot handle (Some s) some = kept (is_handle_of handle s) s some

-- The session in the slot is the one that the handle names.
named_in_slot : (sessions : List (Option Session)) (handle slot : ℕ) → IsNamed sessions handle (Some slot)
    → by_session (session_in sessions slot) ≡ check_loaded handle (loaded sessions handle)
named_in_slot sessions handle slot is =
    rw (is.0, is.1) (ap by_session (in_its_slot handle (session_in sessions (slot_of handle)) is.2))

-- Who authorizes is who the handle names.
pub named : (sessions : List (Option Session)) (handle : ℕ) (slot : Option ℕ) → IsNamed sessions handle slot
    → with_session sessions slot ≡ check_loaded handle (loaded sessions handle)
named sessions handle None is = rw is refl
named sessions handle (Some slot) is = named_in_slot sessions handle slot is

checks_in_turn : (first second : Result (Unit {0}) ℕ) (x : Evidence) (last : Evidence → Result (Unit {0}) ℕ) →
    ((first >>= λ _. (second >>= λ _. Ok x)) >>= last) ≡ ((first >>= λ _. second) >>= λ _. last x)
checks_in_turn (Ok u) (Ok v) x last = refl
checks_in_turn (Ok u) (Err code) x last = refl
checks_in_turn (Err code) second x last = refl

-- All checks are those of who authorizes, after it was found.
pub authorize_is : (by : Authorizer) (s : Option Session) (e : Entity) (code : CommandCode) (names : List (List ℕ)) (params : List ℕ) (counter : ℕ)
    (a : Auth) (others : List Auth) → Ok by ≡ check_loaded a.session s
    → authorize s e code names params counter (a ∷ others) ≡
    ((check_session by a others >>= λ _. check_entity by e code counter) >>= λ _. check_evidence e (evidence_by by e code names params a))
authorize_is by s e code names params counter a others is =
    rw (← is) (checks_in_turn (check_session by a others) (check_entity by e code counter) (evidence_by by e code names params a) (check_evidence e))

pub authorize_refused : (s : Option Session) (e : Entity) (code : CommandCode) (names : List (List ℕ)) (params : List ℕ) (counter : ℕ)
    (a : Auth) (others : List Auth) (refusal : ℕ) → Err refusal ≡ check_loaded a.session s
    → authorize s e code names params counter (a ∷ others) ≡ Err refusal
authorize_refused s e code names params counter a others refusal is = rw (← is) refl

-- Where the first session names nobody, that is the first refusal.
pub unnamed : (sessions : List (Option Session)) (c : Claim) (a : Auth) (others : List Auth) (refusal : ℕ) →
    check_loaded a.session (loaded sessions a.session) ≡ Err refusal → authorized_by sessions c (a ∷ others) ≡ Err refusal
unnamed sessions c a others refusal is =
    authorize_refused (loaded sessions a.session) c.entity c.command c.names c.params c.update_counter a others refusal (sym is)

evidence_is : (by : Authorizer) (s : Option Session) (e : Entity) (code : CommandCode) (names : List (List ℕ)) (params : List ℕ) (counter : ℕ) (a : Auth)
    (others : List Auth) (x : Evidence)
    → Ok by ≡ check_loaded a.session s → evidence_of s e code names params counter (a ∷ others) ≡ Ok x → x ≡ evidence_by by e code names params a
evidence_is by s e code names params counter a others x is known =
    let next : Authorizer →
    Result Evidence ℕ = λ y. check_session y a others >>= λ _. (check_entity y e code counter >>= λ _. Ok (evidence_by y e code names params a)) in
    past (check_session by a others) (check_entity by e code counter) (evidence_by by e code names params a) x
    (ap (λ (r : Result Authorizer ℕ). r >>= next) is ∙ known)

-- the key, by what the entity's part of it depends on
key_by : Session → Bool → List ℕ → List ℕ
key_by s is_owner value =
    whole_key s.key (included_auth_value (if is_hmac s.session_type then ByHmac (s.is_bound && is_owner) else ByPolicy s.policy.auth_value) value)

same_key : (s : Session) (e f : Entity) → auth_value e ≡ auth_value f → is_owner_entity e ≡ is_owner_entity f → key_for s e ≡ key_for s f
unfolding key_by
same_key s e f value owner = ap (λ (v : List ℕ). key_by s (is_owner_entity e) v) value ∙ ap (λ (b : Bool). key_by s b (auth_value f)) owner

abbrev pub signed_by : Session → Entity → (p_hash : List ℕ) → Auth → Signed
signed_by s e p_hash a = record { session = s; key = key_for s e; p_hash = p_hash; auth = a }

pub session_replies : (by : Session) (s : Option Session) (e f : Entity) (code : CommandCode) (names : List (List ℕ)) (sent : List ℕ) (counter : ℕ) (a : Auth)
    (others : List Auth) (x : Evidence) (params nonce : List ℕ) (reply : AuthReply)
    → Ok (BySession by) ≡ check_loaded a.session s → evidence_of s e code names sent counter (a ∷ others) ≡ Ok x → auth_value e ≡ auth_value f →
    is_owner_entity e ≡ is_owner_entity f
    → ((p_hash : List ℕ) → reply_auths (ByMac (signed_by by f p_hash a)) code params nonce ≡ reply ∷ []) → reply_auths x code params nonce ≡ reply ∷ []
session_replies by s e f code names sent counter a others x params nonce reply is known value owner replies =
    let p_hash = cp_hash by.hash (code_number code) names sent in
    ap (λ (y : Evidence). reply_auths y code params nonce) (evidence_is (BySession by) s e code names sent counter a others x is known)
    ∙ ap (λ (k : List ℕ). reply_auths (ByMac (record { session = by; key = k; p_hash = p_hash; auth = a })) code params nonce) (same_key by e f value owner)
    ∙ replies p_hash

-- A password is answered with its own session.
pub password_replies : (s : Option Session) (e : Entity) (code : CommandCode) (names : List (List ℕ)) (sent : List ℕ) (counter : ℕ) (a : Auth)
    (others : List Auth) (x : Evidence) (params nonce : List ℕ) (reply : AuthReply)
    → Ok Password ≡ check_loaded a.session s → evidence_of s e code names sent counter (a ∷ others) ≡ Ok x → reply ≡ password_reply
    → reply_auths x code params nonce ≡ reply ∷ []
password_replies s e code names sent counter a others x params nonce reply is known own =
    ap (λ (y : Evidence). reply_auths y code params nonce) (evidence_is Password s e code names sent counter a others x is known)
    ∙ ap (λ (r : AuthReply). r ∷ []) (sym own)

-- Nobody that authorizes gives no evidence.
pub no_evidence : (s : Option Session) (e : Entity) (code : CommandCode) (names : List (List ℕ)) (sent : List ℕ) (counter : ℕ) (a : Auth)
    (others : List Auth) (x : Evidence) (refusal : ℕ) → Err refusal ≡ check_loaded a.session s
    → evidence_of s e code names sent counter (a ∷ others) ≡ Ok x → ⊥
no_evidence s e code names sent counter a others x refusal is known =
    let next : Authorizer → Result Evidence ℕ =
    λ y. check_session y a others >>= λ _. (check_entity y e code counter >>= λ _. Ok (evidence_by y e code names sent a)) in
    let refused : Err refusal ≡ Ok x = ap (λ (r : Result Authorizer ℕ). r >>= next) is ∙ known in
    cc
