-- Sessions at a history (Part 1, "Session-Based Authorizations"; Part 3, 11.1).
use Rattle.std.specs.Prelude.{ℕ, ◌+◌, ◌%◌, Bool, true, false, not, ◌&&◌, ◌||◌, ◌==◌, is_some, is_none, find}
use Rattle.std.specs.Prelude.{slice_index_or, List, [], ◌∷◌, length, map, take, Option, Some, None, option_map}
use Rattle.std.specs.Prelude.{if◌then◌else◌}
use Rattle.tpm_types.specs.declared.alg.Alg.{Alg}
use Rattle.tpm_types.specs.declared.constants.SessionType.TheVariants.{Hmac, Trial}
use Rattle.tpm_types.specs.declared.constants.SessionType.{SessionType}
use Rattle.tpm_types.specs.declared.handle_sets.BindHandle.{BindHandle}
use Rattle.tpm_types.specs.declared.tpms.Auth.{Auth}
use Rattle.tpm_types.specs.declared.tpms.Selection.{Selection}
use Rattle.tpm_types.specs.Handles.{is_session, is_hmac_session, is_policy}
use Rattle.tpm_types.specs.Tpma.{continues}
use Rattle.tpm_types.specs.declared.handle_sets.BindHandle.TheVariants as binds
use Rattle.tpm_commands.specs.declared.command.CommandBody.{CommandBody}
use Rattle.tpm_commands.specs.declared.command.StartAuth.{StartAuth}
use Rattle.tpm_commands.specs.declared.command.ReplyBody.{ReplyBody}
use Rattle.tpm_commands.specs.declared.command.CommandBody.TheVariants as bodies
use Rattle.tpm_commands.specs.declared.command.ReplyBody.TheVariants as replies
use Rattle.tpm_hmac.specs.Sessions.{session_key}
use Rattle.tpm_model.specs.Steps.{History, PowerCycle, Accepted, Origin}
use Rattle.tpm_model.specs.Changes.{changes}
use Rattle.tpm_pcr.specs.Registers.{Registers, registers_after, value_in, composite}
use Rattle.tpm_model.specs.Policies.Assertion.{PcrAsserted, OrAsserted, CodeAsserted, AuthValueAsserted}
use Rattle.tpm_model.specs.Policies.{Assertion, Policy, policy_of}

-- ---- slots and handles (Part 2, 7.2; three slots, and the lowest free one is taken, in this profile)

abbrev pub slots : List ℕ
slots = 0 ∷ 1 ∷ 2 ∷ []

abbrev pub slot_of : ℕ → ℕ
slot_of handle = handle % 0x1000000

abbrev pub is_hmac : SessionType → Bool
is_hmac Hmac = true
is_hmac _ = false

abbrev pub is_trial : SessionType → Bool
is_trial Trial = true
is_trial _ = false

abbrev pub handle_for : SessionType → ℕ → ℕ
handle_for kind slot = (if is_hmac kind then 0x02000000 else 0x03000000) + slot

-- ---- a session's life

-- a TPM2_StartAuthSession that answered the slot
abbrev pub begun_with : ℕ → StartAuth → ReplyBody → Option StartAuth
begun_with k start (replies.StartAuthSession reply) = if slot_of reply.session == k then Some start else None
begun_with k start _ = None

-- what the command started the session of this slot with, if it started one
abbrev pub begun : ℕ → CommandBody → ReplyBody → Option StartAuth
begun k (bodies.StartAuthSession start) reply = begun_with k start reply
begun k _ reply = None

abbrev pub begins : ℕ → CommandBody → ReplyBody → Bool
begins k body reply = is_some (begun k body reply)

-- the session of this slot, and no password
abbrev pub is_of_slot : ℕ → Auth → Bool
is_of_slot k a = is_session a.session && slot_of a.session == k

-- The slot's session is the first of these, which authorize a command.
abbrev pub authorizes : ℕ → List Auth → Bool
authorizes k [] = false
authorizes k (a ∷ others) = is_of_slot k a

-- It authorizes for the last time: continueSession is clear.
abbrev pub closes : ℕ → List Auth → Bool
closes k [] = false
closes k (a ∷ others) = is_of_slot k a && not (continues a.attrs)

-- The command flushed the slot, or all of them.
abbrev pub clears : ℕ → CommandBody → Bool
clears k (bodies.Startup kind) = true
clears k (bodies.FlushContext handle) = slot_of handle == k
clears k _ = false

-- The last TPM2_StartAuthSession that answered the slot stands after the last power cycle, and no later step was a
-- TPM2_Startup, flushed it, or was authorized by it with continueSession clear.
abbrev pub lives : ℕ → History → Bool
lives k [] = false
lives k (PowerCycle ∷ h) = false
lives k (Accepted c r n ∷ h) =
    begins k c.body r.body || (if clears k c.body || closes k c.auths.items then false else lives k h)

-- how a session was started, and the nonce that was handed in
pub record Start : Type 0 where
  pub request : StartAuth
  pub nonce : List ℕ

-- a step that started the session, or else what was
abbrev pub started_by : Option StartAuth → (nonce : List ℕ) → Option Start → Option Start
started_by None nonce old = old
started_by (Some request) nonce old = Some (record { request = request; nonce = nonce })

-- the last start that answered the slot
abbrev pub start_of : ℕ → History → Option Start
start_of k [] = None
start_of k (PowerCycle ∷ h) = None
start_of k (Accepted c r n ∷ h) = started_by (begun k c.body r.body) n (start_of k h)

-- the nonce handed in at the last step that started the slot's session or was authorized by it
abbrev pub last_nonce : ℕ → History → List ℕ
last_nonce k [] = []
last_nonce k (PowerCycle ∷ h) = []
last_nonce k (Accepted c r n ∷ h) = if begins k c.body r.body || authorizes k c.auths.items then n else last_nonce k h

-- ---- a policy session's assertions

-- What TPM2_PolicyPCR asserts in a session of this type and hash: the composite of the registers as they are, with the
-- update counter. A trial takes any digest that it is given for the composite, and keeps no update counter.
abbrev pub pcr_assertion : Registers → SessionType → Alg → List ℕ → List Selection → Assertion
pcr_assertion now Trial alg [] sels = PcrAsserted sels (composite alg (value_in now.banks) sels) None
pcr_assertion now Trial alg pcr_digest sels = PcrAsserted sels pcr_digest None
pcr_assertion now _ alg pcr_digest sels =
    PcrAsserted sels (composite alg (value_in now.banks) sels) (Some now.update_counter)

-- in the session of this start
abbrev pub pcr_asserted : Registers → Option Start → List ℕ → List Selection → List Assertion → List Assertion
pcr_asserted now None pcr_digest sels old = old
pcr_asserted now (Some start) pcr_digest sels old =
    pcr_assertion now start.request.params.session_type start.request.params.auth_hash pcr_digest sels ∷ old

-- what the slot's session asserts after a policy command on it, or another command
abbrev pub asserted_by : ℕ → CommandBody → Registers → Option Start → List Assertion → List Assertion
asserted_by k (bodies.PolicyPcr handle asked) now start old =
    if slot_of handle == k then pcr_asserted now start asked.pcr_digest asked.selections old else old
asserted_by k (bodies.PolicyOr handle digests) now start old =
    if slot_of handle == k then OrAsserted digests ∷ old else old
asserted_by k (bodies.PolicyCommandCode handle code) now start old =
    if slot_of handle == k then CodeAsserted code ∷ old else old
asserted_by k (bodies.PolicyAuthValue handle) now start old =
    if slot_of handle == k then AuthValueAsserted ∷ old else old
asserted_by k (bodies.PolicyRestart handle) now start old = if slot_of handle == k then [] else old
asserted_by k _ now start old = old

-- what the slot's session asserts: the policy commands on it, the newest first, since the latest of its start, its last
-- TPM2_PolicyRestart and the last step that it authorized
abbrev pub assertions_of : ℕ → History → List Assertion
assertions_of k [] = []
assertions_of k (PowerCycle ∷ h) = []
assertions_of k (Accepted c r n ∷ h) =
    if begins k c.body r.body || authorizes k c.auths.items then []
    else asserted_by k c.body (registers_after (changes h)) (start_of k h) (assertions_of k h)

-- ---- a session as it is held

pub record Session : Type 0 where
  pub session_type : SessionType
  pub hash : Alg
  pub key : List ℕ
  pub nonce : List ℕ
  -- how many bytes its nonces have
  pub nonce_length : ℕ
  pub is_bound : Bool
  pub policy : Policy

abbrev pub is_owner_bind : BindHandle → Bool
is_owner_bind binds.Owner = true
is_owner_bind binds.Null = false

-- the authValue of what a session is bound to
abbrev pub bound_value : Origin → BindHandle → Option (List ℕ)
bound_value o binds.Owner = Some o.owner
bound_value o binds.Null = None

-- the first bytes of a nonce that is handed in, as many as the session's nonces have
abbrev pub nonce_from : StartAuth → List ℕ → List ℕ
nonce_from start nonce = take (length start.params.nonce_caller) nonce

abbrev pub key_of : Origin → Start → List ℕ
key_of o s =
    session_key s.request.params.auth_hash (bound_value o s.request.bind) (nonce_from s.request s.nonce)
    s.request.params.nonce_caller

abbrev pub as_session : Origin → (last : List ℕ) → List Assertion → Start → Session
as_session o last made s = record {
  session_type = s.request.params.session_type;
  hash = s.request.params.auth_hash;
  key = key_of o s;
  nonce = nonce_from s.request last;
  nonce_length = length s.request.params.nonce_caller;
  is_bound = is_owner_bind s.request.bind;
  policy = policy_of s.request.params.auth_hash made;
}

-- the session of a slot, where one lives
abbrev pub session_at : Origin → History → ℕ → Option Session
session_at o h k =
    if lives k h then option_map (as_session o (last_nonce k h) (assertions_of k h)) (start_of k h) else None

abbrev pub sessions_at : Origin → History → List (Option Session)
sessions_at o h = map (session_at o h) slots

-- ---- looking up a session

abbrev pub session_in : List (Option Session) → ℕ → Option Session
session_in sessions slot = slice_index_or sessions slot None

-- The handle is of the session's kind.
abbrev pub is_handle_of : ℕ → Session → Bool
is_handle_of handle s = if is_hmac s.session_type then is_hmac_session handle else is_policy handle

abbrev pub if_of_kind : ℕ → Option Session → Option Session
if_of_kind handle None = None
if_of_kind handle (Some s) = if is_handle_of handle s then Some s else None

-- the session of this handle, among those of the slots: one of the handle's kind is in use there
abbrev pub loaded : List (Option Session) → ℕ → Option Session
loaded sessions handle = if_of_kind handle (session_in sessions (slot_of handle))

-- the lowest free slot
abbrev pub free_slot : List (Option Session) → Option ℕ
free_slot sessions = find (λ k. is_none (session_in sessions k)) slots
