-- What the HMAC of a session is made of (Part 1, "Session-Based Authorizations" and "Command Parameter Hash").
use Rattle.std.specs.Prelude.{ℕ, zero, Bool, true, false, List, [], ◌∷◌, ◌++◌, Option, Some, None}
use Rattle.std.specs.List.{flat_map}
use Rattle.std.specs.Int.{w32, to_be_bytes}
use Rattle.tpm_types.specs.declared.alg.Alg.{Alg}
use Rattle.tpm_types.specs.Alg.{digest_len}
use Rattle.tpm_hmac.specs.Hashes.{digest}
use Rattle.tpm_hmac.specs.Hmac.{kdfa}

-- ---- authorization values

-- A byte before others that have no trailing zeros: a zero before nothing is trailing.
abbrev pub before_trimmed : ℕ → List ℕ → List ℕ
before_trimmed zero [] = []
before_trimmed b rest = b ∷ rest

-- the bytes without trailing zeros
abbrev pub trim : List ℕ → List ℕ
trim [] = []
trim (b ∷ bytes) = before_trimmed b (trim bytes)

-- ---- keys

-- The sessionKey of a session that is bound to an entity with this authValue: KDFa of it, under the label "ATH", for as
-- many bits as a digest has. A session that is bound to none, with bind TPM_RH_NULL, has the empty one
-- (Part 1, "sessionKey Creation").
abbrev pub session_key : Alg → Option (List ℕ) → (nonce_tpm nonce_caller : List ℕ) → List ℕ
session_key alg None nonce_tpm nonce_caller = []
session_key alg (Some auth_value) nonce_tpm nonce_caller =
    kdfa alg (trim auth_value) (0x41 ∷ 0x54 ∷ 0x48 ∷ []) nonce_tpm nonce_caller (digest_len alg)

-- What makes the authValue of an entity part of the key: an HMAC session has it unless it is bound
-- to that very entity, a policy session has it after TPM2_PolicyAuthValue alone (Part 1, "HMAC
-- Computation").
pub data AuthValueRule : Type 0 where
  ByHmac : (is_bound_to_it : Bool) → AuthValueRule
  ByPolicy : (after_policy_auth_value : Bool) → AuthValueRule

abbrev pub included_auth_value : AuthValueRule → List ℕ → List ℕ
included_auth_value (ByHmac true) auth_value = []
included_auth_value (ByHmac false) auth_value = auth_value
included_auth_value (ByPolicy true) auth_value = auth_value
included_auth_value (ByPolicy false) auth_value = []

-- sessionKey || authValue
abbrev pub whole_key : List ℕ → List ℕ → List ℕ
whole_key session_key auth_value = session_key ++ trim auth_value

-- ---- texts

-- cpHash: commandCode || Name of each handle || parameters (Part 1, "Command Parameter Hash (cpHash)")
abbrev pub cp_hash : Alg → (command_code : ℕ) → (names : List (List ℕ)) → (parameters : List ℕ) → List ℕ
cp_hash alg command_code names parameters =
    digest alg (to_be_bytes w32 command_code ++ (flat_map (λ name. name) names ++ parameters))

-- rpHash: responseCode || commandCode || parameters, where the responseCode is 0, since another response has no session
-- (Part 1, "Response Parameter Hash (rpHash)")
abbrev pub rp_hash : Alg → (command_code : ℕ) → (parameters : List ℕ) → List ℕ
rp_hash alg command_code parameters = digest alg (to_be_bytes w32 0 ++ (to_be_bytes w32 command_code ++ parameters))

-- pHash || nonceNewer || nonceOlder || sessionAttributes (Part 1, "HMAC Computation")
abbrev pub mac_text : (p_hash newer older : List ℕ) → (attributes : ℕ) → List ℕ
mac_text p_hash newer older attributes = p_hash ++ (newer ++ (older ++ (attributes ∷ [])))
