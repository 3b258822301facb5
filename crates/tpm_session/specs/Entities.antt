-- What authorizes a command, as it is handed in and as the code has it.
use Rattle.std.specs.Prelude.{◌≡◌, ℕ, suc, ◌==◌, true, false, List, [], ◌∷◌, length, Option, None, Some, IsSome}
use Rattle.std.specs.Prelude.{Result, Ok}
use Rattle.tpm_types.specs.declared.tpms.Auth.{Auth}
use Rattle.tpm_types.specs.declared.tpms.AuthReply.{AuthReply}
use Rattle.tpm_types.specs.declared.command_code.CommandCode.{CommandCode}
use Rattle.tpm_types.specs.Handles.{rs_pw}
use Rattle.tpm_model.specs.Sessions.{Session, loaded, session_in, slot_of}
use Rattle.tpm_model.specs.Entities as model
use Rattle.tpm_model.specs.Authorization as authorization
use Rattle.tpm_session.specs.declared.evidence.Entity.{Entity}
use Rattle.tpm_session.specs.declared.authorize.Authorization.{Authorization}
use Rattle.tpm_session.specs.declared.evidence.Entity.TheVariants as entities

abbrev pub entity_in : Entity → model.Entity
entity_in entities.Register = model.Entity.Register
entity_in entities.Null = model.Entity.Null
entity_in (entities.Owner auth) = model.Entity.Owner auth.now
entity_in (entities.Index index) = model.Entity.Index index.now.public index.now.auth

-- A handle names the password, or the session that is loaded in its slot, among these.
abbrev pub IsNamed : List (Option Session) → (handle : ℕ) → (slot : Option ℕ) → Type 0
IsNamed sessions handle None = (handle == rs_pw) ≡ true
IsNamed sessions handle (Some slot) =
    ((handle == rs_pw) ≡ false) × (slot ≡ slot_of handle) × IsSome (loaded sessions handle)

-- A command with these sessions is authorized so: by the first of them, and by who that names among those that are
-- loaded.
pub record Authorizes (sessions : List (Option Session)) (auths : List Auth) (a : Authorization) : Type 0 where
  pub others : List Auth
  pub are : auths ≡ a.first.now ∷ others
  pub count : a.count ≡ suc (length others)
  pub by : IsNamed sessions a.first.now.session a.slot

-- It is authorized so, or has no session.
abbrev pub IsAuthorization : List (Option Session) → List Auth → Option Authorization → Type 0
IsAuthorization sessions auths None = auths ≡ []
IsAuthorization sessions auths (Some a) = Authorizes sessions auths a

-- who that is, with the session as it is among these
abbrev pub with_session : List (Option Session) → (slot : Option ℕ) → Result authorization.Authorizer ℕ
with_session sessions None = Ok authorization.Authorizer.Password
with_session sessions (Some slot) = authorization.by_session (session_in sessions slot)

-- A command by what its authorization is judged, beside its sessions: what its first handle names, its code, the Names
-- of its handles and its parameters as they came, and the present update counter.
pub record Claim : Type 0 where
  pub entity : model.Entity
  pub command : CommandCode
  pub names : List (List ℕ)
  pub params : List ℕ
  pub update_counter : ℕ

-- the checks of its sessions but the last, among these
abbrev pub evidence_of : List (Option Session) → Claim → List Auth → Result authorization.Evidence ℕ
evidence_of sessions c auths =
    authorization.evidence_of (authorization.first_loaded (loaded sessions) auths) c.entity c.command c.names c.params
    c.update_counter auths

-- all checks of its sessions
abbrev pub authorized : List (Option Session) → Claim → List Auth → Result (Unit {0}) ℕ
authorized sessions c auths =
    authorization.authorize (authorization.first_loaded (loaded sessions) auths) c.entity c.command c.names c.params
    c.update_counter auths

-- The session of a reply that has none: no nonce, no attributes, no HMAC.
abbrev pub no_reply : AuthReply
no_reply = record { nonce = []; attrs = 0; hmac = [] }
