-- A caller and a device that agree on a session.
use Rattle.std.specs.Prelude.{◌≡◌, ℕ, List, length, Some}
use Rattle.tpm_types.specs.declared.alg.Alg.{Alg}
use Rattle.tpm_model.specs.Steps.{History, Origin}
use Rattle.tpm_model.specs.Sessions.{Session, sessions_at, loaded}

-- what a caller holds of its session
pub record CallerSession : Type 0 where
  pub handle : ℕ
  pub hash : Alg
  pub key : List ℕ
  -- the last nonceTPM that it has seen
  pub nonce : List ℕ

-- with a session: its hash, key and nonceTPM, which has the session's length
pub record Agrees (c : CallerSession) (s : Session) : Type 0 where
  pub hash : s.hash ≡ c.hash
  pub key : s.key ≡ c.key
  pub nonce : s.nonce ≡ c.nonce
  pub length : s.nonce_length ≡ length c.nonce

-- The caller's session lives at the history, with its handle, hash, key and nonceTPM.
abbrev pub InStep : Origin → History → CallerSession → Type 0
InStep o h c = (s : Session) × (loaded (sessions_at o h) c.handle ≡ Some s) × Agrees c s
