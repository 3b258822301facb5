-- The key of a session's HMACs: the session key and what follows it.
use Rattle.std.proofs.Common.{◌≡◌, ℕ, List, [], ◌∷◌, ◌&&◌, refl}
use Rattle.tpm_hmac.specs.Sessions.{trim, whole_key}
use Rattle.tpm_model.specs.Authorization.{is_empty}

-- A key is empty where both parts of it are.
pub empty_key : (key follows : List ℕ) → (is_empty key && is_empty (trim follows)) ≡ is_empty (whole_key key follows)
empty_key [] follows = refl
empty_key (x ∷ xs) follows = refl
