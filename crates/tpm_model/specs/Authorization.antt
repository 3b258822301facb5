-- The checks of a command's authorization, in their order, and the session of its reply (Part 1, "Authorizations and
-- Acknowledgments"; the order is this profile's).
use Rattle.std.specs.Prelude.{ℕ, ◌+◌, Bool, true, false, not, ◌&&◌, ◌==◌, bytes_eq, List, [], ◌∷◌, take, Option, Some}
use Rattle.std.specs.Prelude.{None, Result, Ok, Err, if◌then◌else◌}
use Rattle.tpm_wire.specs.Reading.{◌>>=◌}
use Rattle.tpm_wire.specs.ResponseCodes.{rc_attributes, rc_auth_fail, rc_auth_unavailable, rc_bad_auth, rc_nonce}
use Rattle.tpm_wire.specs.ResponseCodes.{rc_pcr_changed, rc_policy_cc, rc_policy_fail, rc_reference_s0, of_session}
use Rattle.tpm_types.specs.declared.alg.Alg.{Alg}
use Rattle.tpm_types.specs.declared.tpms.Auth.{Auth}
use Rattle.tpm_types.specs.declared.tpms.AuthReply.{AuthReply}
use Rattle.tpm_types.specs.Alg.{alg_number}
use Rattle.tpm_types.specs.Handles.{rs_pw}
use Rattle.tpm_types.specs.Tpma.{audits_or_encrypts, auth_writes, auth_reads, policy_writes, policy_reads, no_da}
use Rattle.tpm_types.specs.declared.command_code.CommandCode.{CommandCode}
use Rattle.tpm_types.specs.CommandCodes.{code_number}
use Rattle.tpm_types.specs.declared.command_code.CommandCode.TheVariants as codes
use Rattle.tpm_hmac.specs.Hmac.{hmac}
use Rattle.tpm_hmac.specs.Sessions.AuthValueRule.{ByHmac, ByPolicy}
use Rattle.tpm_hmac.specs.Sessions.{trim, AuthValueRule, included_auth_value, whole_key, cp_hash, rp_hash, mac_text}
use Rattle.tpm_model.specs.Sessions.{Session, is_hmac, is_trial}
use Rattle.tpm_model.specs.Entities.Entity.{Index}
use Rattle.tpm_model.specs.Entities.{Entity, auth_value, is_owner_entity}

-- ---- words

-- a test with the code of what fails it
abbrev pub refuse : Bool → ℕ → Result (Unit {0}) ℕ
refuse fails code = if fails then Err code else Ok tt

abbrev pub is_empty : {A : Type 0} → List A → Bool
is_empty [] = true
is_empty (x ∷ xs) = false

-- ---- the session

-- who authorizes: a password, or a session that is loaded
pub data Authorizer : Type 0 where
  Password : Authorizer
  BySession : (session : Session) → Authorizer

-- a session, where it is loaded
abbrev pub by_session : Option Session → Result Authorizer ℕ
by_session None = Err rc_reference_s0
by_session (Some s) = Ok (BySession s)

-- Any but a password is loaded.
abbrev pub check_loaded : ℕ → Option Session → Result Authorizer ℕ
check_loaded handle s = if handle == rs_pw then Ok Password else by_session s

-- A trial session authorizes nothing (Part 1, "Trial Policy").
abbrev pub check_no_trial : Authorizer → Result (Unit {0}) ℕ
check_no_trial Password = Ok tt
check_no_trial (BySession s) = refuse (is_trial s.session_type) (rc_attributes + of_session 1)

-- A password has no nonce (Part 1, "Password Authorizations").
abbrev pub check_no_nonce : Authorizer → List ℕ → Result (Unit {0}) ℕ
check_no_nonce Password nonce = refuse (not (is_empty nonce)) (rc_nonce + of_session 1)
check_no_nonce (BySession s) nonce = Ok tt

-- Not audited and not encrypted, no trial, no password with a nonce, and no second session (this profile).
abbrev pub check_session : Authorizer → Auth → List Auth → Result (Unit {0}) ℕ
check_session by a others = do
  _ ← refuse (audits_or_encrypts a.attrs) (rc_attributes + of_session 1)
  _ ← check_no_trial by
  _ ← check_no_nonce by a.nonce
  refuse (not (is_empty others)) (rc_attributes + of_session 2)

-- ---- the entity

-- what a command does to the index that authorizes it
pub data Access : Type 0 where
  Writes : Access
  Reads : Access
  Neither : Access

abbrev pub access_of : CommandCode → Access
access_of codes.NvIncrement = Writes
access_of codes.NvRead = Reads
access_of _ = Neither

-- An index lets its authValue be used: TPMA_NV_AUTHWRITE and TPMA_NV_AUTHREAD (Part 2, 13.4).
abbrev pub allows_auth : Access → (attrs : ℕ) → Bool
allows_auth Writes attrs = auth_writes attrs
allows_auth Reads attrs = auth_reads attrs
allows_auth Neither attrs = true

-- It lets its policy be used: TPMA_NV_POLICYWRITE and TPMA_NV_POLICYREAD (Part 2, 13.4).
abbrev pub allows_policy : Access → (attrs : ℕ) → Bool
allows_policy Writes attrs = policy_writes attrs
allows_policy Reads attrs = policy_reads attrs
allows_policy Neither attrs = true

-- Anything else has an authValue.
abbrev pub check_auth : Entity → CommandCode → Result (Unit {0}) ℕ
check_auth (Index public auth) code = refuse (not (allows_auth (access_of code) public.attrs)) rc_auth_unavailable
check_auth _ code = Ok tt

-- Nothing else has a policy.
abbrev pub check_policy_allowed : Entity → CommandCode → Result (Unit {0}) ℕ
check_policy_allowed (Index public auth) code =
    refuse (not (allows_policy (access_of code) public.attrs)) rc_auth_unavailable
check_policy_allowed _ code = Err rc_auth_unavailable

-- ---- the policy (Part 1, "Policy Session Authorization")

-- one number is kept, and it is another
abbrev pub differs : Option ℕ → ℕ → Bool
differs None n = false
differs (Some m) n = not (m == n)

-- The session has the policy of the index, in its hash.
abbrev pub has_policy : Entity → Session → Bool
has_policy (Index public auth) s = bytes_eq s.policy.digest public.policy && alg_number s.hash == alg_number public.alg
has_policy _ s = false

abbrev pub check_policy : Entity → CommandCode → (update_counter : ℕ) → Session → Result (Unit {0}) ℕ
check_policy e code update_counter s = do
  _ ← check_policy_allowed e code
  _ ← refuse (differs s.policy.update_counter update_counter) rc_pcr_changed
  _ ← refuse (not (has_policy e s)) (rc_policy_fail + of_session 1)
  refuse (differs s.policy.code (code_number code)) (rc_policy_cc + of_session 1)

-- The entity lets itself be used so, and a policy is met.
abbrev pub check_entity : Authorizer → Entity → CommandCode → (update_counter : ℕ) → Result (Unit {0}) ℕ
check_entity Password e code update_counter = check_auth e code
check_entity (BySession s) e code update_counter =
    if is_hmac s.session_type then check_auth e code else check_policy e code update_counter s

-- ---- the evidence

-- how a session makes the authValue part of the key
abbrev pub how : Session → Entity → AuthValueRule
how s e = if is_hmac s.session_type then ByHmac (s.is_bound && is_owner_entity e) else ByPolicy s.policy.auth_value

-- what follows the session key
abbrev pub follows : Session → Entity → List ℕ
follows s e = included_auth_value (how s e) (auth_value e)

abbrev pub key_for : Session → Entity → List ℕ
key_for s e = whole_key s.key (follows s e)

-- what a session's HMAC is made of: the session, the whole key, the cpHash, and what the command has of the session
pub record Signed : Type 0 where
  pub session : Session
  pub key : List ℕ
  pub p_hash : List ℕ
  pub auth : Auth

-- The newer nonce is the caller's, the older the session's.
abbrev pub command_text : Signed → List ℕ
command_text x = mac_text x.p_hash x.auth.nonce x.session.nonce x.auth.attrs

-- Where there is no key, an empty HMAC is none (Part 1, "HMAC Computation").
abbrev pub needs_none : Signed → Bool
needs_none x = is_empty x.key && is_empty x.auth.hmac

abbrev pub is_signed : Signed → Bool
is_signed x = if needs_none x then true else bytes_eq x.auth.hmac (hmac x.session.hash x.key (command_text x))

-- what is left to be compared
pub data Evidence : Type 0 where
  -- no handle needs authorization
  NotAsked : Evidence
  ByPassword : (given wanted : List ℕ) → Evidence
  ByMac : (signed : Signed) → Evidence

-- what a password or a session gives as evidence for a command with these Names and parameters
abbrev pub evidence_by : Authorizer → Entity → CommandCode → (names : List (List ℕ)) → (params : List ℕ) → Auth
    → Evidence
evidence_by Password e code names params a = ByPassword (trim a.hmac) (auth_value e)
evidence_by (BySession s) e code names params a =
    ByMac (record { session = s; key = key_for s e; p_hash = cp_hash s.hash (code_number code) names params; auth = a })

-- the session that is named, among those that are loaded
abbrev pub first_loaded : (ℕ → Option Session) → List Auth → Option Session
first_loaded loaded [] = None
first_loaded loaded (a ∷ others) = loaded a.session

-- All checks of the sessions but the last. The parameters are as they came.
abbrev pub evidence_of : Option Session → Entity → CommandCode → (names : List (List ℕ)) → (params : List ℕ)
    → (update_counter : ℕ) → List Auth → Result Evidence ℕ
evidence_of s e code names params update_counter [] = Ok NotAsked
evidence_of s e code names params update_counter (a ∷ others) = do
  by ← check_loaded a.session s
  _ ← check_session by a others
  _ ← check_entity by e code update_counter
  Ok (evidence_by by e code names params a)

-- A failure counts against an index that does not have TPMA_NV_NO_DA (Part 1, "Dictionary Attack Protection").
abbrev pub failure : Entity → ℕ
failure (Index public auth) = (if no_da public.attrs then rc_bad_auth else rc_auth_fail) + of_session 1
failure _ = rc_bad_auth + of_session 1

-- The last check: the password or the HMAC.
abbrev pub check_evidence : Entity → Evidence → Result (Unit {0}) ℕ
check_evidence e NotAsked = Ok tt
check_evidence e (ByPassword given wanted) = refuse (not (bytes_eq given wanted)) (failure e)
check_evidence e (ByMac x) = refuse (not (is_signed x)) (failure e)

-- all checks of the sessions
abbrev pub authorize : Option Session → Entity → CommandCode → (names : List (List ℕ)) → (params : List ℕ)
    → (update_counter : ℕ) → List Auth → Result (Unit {0}) ℕ
authorize s e code names params update_counter auths = do
  evidence ← evidence_of s e code names params update_counter auths
  check_evidence e evidence

-- ---- the session of the reply

-- the session's next nonce: the first bytes of the nonce that is handed in
abbrev pub nonce_next : Session → List ℕ → List ℕ
nonce_next s nonce = take s.nonce_length nonce

-- The text of a reply's HMAC: the newer nonce is the session's next, the older the caller's.
abbrev pub reply_text : Alg → CommandCode → (params newer older : List ℕ) → (attributes : ℕ) → List ℕ
reply_text alg code params newer older attributes =
    mac_text (rp_hash alg (code_number code) params) newer older attributes

-- The key is that of the command's check.
abbrev pub reply_mac : Signed → CommandCode → (params nonce : List ℕ) → List ℕ
reply_mac x code params nonce =
    hmac x.session.hash x.key
    (reply_text x.session.hash code params (nonce_next x.session nonce) x.auth.nonce x.auth.attrs)

-- A password is answered with continueSession set and nothing else (Part 1, "Password Authorizations").
abbrev pub password_reply : AuthReply
password_reply = record { nonce = []; attrs = 0x01; hmac = [] }

-- the sessions of a reply with these parameters
abbrev pub reply_auths : Evidence → CommandCode → (params nonce : List ℕ) → List AuthReply
reply_auths NotAsked code params nonce = []
reply_auths (ByPassword given wanted) code params nonce = password_reply ∷ []
reply_auths (ByMac x) code params nonce = record {
  nonce = nonce_next x.session nonce;
  attrs = x.auth.attrs;
  hmac = if needs_none x then [] else reply_mac x code params nonce;
} ∷ []
