-- Who authorizes a command, and what the HMACs of a session are made of.
use Rattle.std.specs.Prelude.{ℕ, List, Option, None, Some}
use Rattle.tpm_model.specs.Sessions.{Session}
use Rattle.tpm_hmac.specs.Sessions.{whole_key}
use Rattle.tpm_model.specs.Authorization as authorization
use Rattle.tpm_session.specs.declared.evidence.Signed.{Signed}

-- who authorizes: a session, or none for a password
abbrev pub authorizer_in : Option Session → authorization.Authorizer
authorizer_in None = authorization.Authorizer.Password
authorizer_in (Some session) = authorization.Authorizer.BySession session

-- what the HMACs of a session are made of, with this cpHash
abbrev pub signed_in : Signed → (p_hash : List ℕ) → authorization.Signed
signed_in x p_hash = record {
  session = x.session.now;
  key = whole_key x.session.now.key x.follows.now;
  p_hash = p_hash;
  auth = x.auth.now;
}
