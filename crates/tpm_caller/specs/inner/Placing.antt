-- Where the parts of a sealed command are put.
use Rattle.std.specs.Prelude.{◌≡◌, ◌≤◌, ℕ, ◌+◌, ◌*◌, List, ◌++◌, length, take, drop, Ok}
use Rattle.tpm_wire.specs.Reading.{read_all}
use Rattle.tpm_wire.specs.Spelling.{spelling, Fits}
use Rattle.tpm_types.specs.declared.command_code.CommandCode.{CommandCode}
use Rattle.tpm_commands.specs.declared.command.Params.{Params}
use Rattle.tpm_commands.specs.Limits.{most_params}
use Rattle.tpm_commands.specs.Parameters.{params_code, parameters}
use Rattle.tpm_caller.specs.Plain.{IsAtFront}

-- how many bytes are before the HMAC: the header, the handles, authorizationSize, the session's
-- handle, its nonce, attributes and HMAC's size
abbrev pub hmac_at : (names : List (List ℕ)) → (nonce : List ℕ) → ℕ
hmac_at names nonce = 23 + 4 * length names + length nonce

-- in the place of as many other bytes
abbrev pub with_hmac : ℕ → (hmac bytes : List ℕ) → List ℕ
with_hmac at hmac bytes = take at bytes ++ (hmac ++ drop (at + length hmac) bytes)

-- What stands there, and the count, grow by these bytes.
abbrev pub Appends : List ℕ → (before after : List ℕ × ℕ) → Type 0
Appends bytes before after =
    (front old : List ℕ) → IsAtFront front old before.0 before.1 → IsAtFront (front ++ bytes) old after.0 after.1

-- The bytes are these parameters of a command with this code, spelled as they are.
pub record AreParams (code : CommandCode) (bytes : List ℕ) (p : Params) : Type 0 where
  pub read : read_all (parameters code) bytes ≡ Ok p
  pub code_is : params_code p ≡ code
  pub spelled : bytes ≡ spelling (parameters code) p
  pub short : length bytes ≤ most_params
  pub fits : (left : ℕ) → Fits left (parameters code) p
