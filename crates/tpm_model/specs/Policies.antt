-- Policies: what a session asserts, and the digest of it (Part 1, "Enhanced Authorization").
use Rattle.std.specs.Prelude.{ℕ, Bool, true, false, List, [], ◌∷◌, ◌++◌, Option, Some, None, flat_map}
use Rattle.std.specs.Int.{w32, to_be_bytes}
use Rattle.tpm_wire.specs.Spelling.{spelling}
use Rattle.tpm_types.specs.declared.alg.Alg.{Alg}
use Rattle.tpm_types.specs.declared.tpms.Selection.{Selection}
use Rattle.tpm_types.specs.Tpml.{selections}
use Rattle.tpm_types.specs.declared.command_code.CommandCode.{CommandCode}
use Rattle.tpm_types.specs.CommandCodes.{code_number}
use Rattle.tpm_types.specs.declared.command_code.CommandCode.TheVariants as codes
use Rattle.tpm_hmac.specs.Hashes.{digest}
use Rattle.tpm_pcr.specs.Registers.{zeros}

-- what a policy command asserts
pub data Assertion : Type 0 where
  -- the registers selected, the digest of their values, and the update counter that is kept with it
  PcrAsserted : (selected : List Selection) → (pcr_digest : List ℕ) → (update_counter : Option ℕ) → Assertion
  OrAsserted : (digests : List (List ℕ)) → Assertion
  CodeAsserted : (code : ℕ) → Assertion
  AuthValueAsserted : Assertion

-- ---- the policy digest

-- a command's own code, as it is hashed
abbrev pub code_bytes : CommandCode → List ℕ
code_bytes code = to_be_bytes w32 (code_number code)

-- The digest after an assertion (Part 3, 23.7, 23.6, 23.11 and 23.17).
abbrev pub asserted : Alg → Assertion → List ℕ → List ℕ
asserted alg (PcrAsserted selected pcr_digest update_counter) old =
    digest alg (old ++ code_bytes codes.PolicyPcr ++ spelling selections selected ++ pcr_digest)
asserted alg (OrAsserted digests) old = digest alg (zeros alg ++ code_bytes codes.PolicyOr ++ flat_map (λ d. d) digests)
asserted alg (CodeAsserted code) old = digest alg (old ++ code_bytes codes.PolicyCommandCode ++ to_be_bytes w32 code)
asserted alg AuthValueAsserted old = digest alg (old ++ code_bytes codes.PolicyAuthValue)

-- of assertions, the newest first, from zeros
abbrev pub policy_digest : Alg → List Assertion → List ℕ
policy_digest alg [] = zeros alg
policy_digest alg (a ∷ earlier) = asserted alg a (policy_digest alg earlier)

-- ---- what else assertions say, the newest of them first

-- the code that a TPM2_PolicyCommandCode has set
abbrev pub code_set : List Assertion → Option ℕ
code_set [] = None
code_set (CodeAsserted code ∷ earlier) = Some code
code_set (_ ∷ earlier) = code_set earlier

-- the update counter that a TPM2_PolicyPCR has kept
abbrev pub counter_kept : List Assertion → Option ℕ
counter_kept [] = None
counter_kept (PcrAsserted selected pcr_digest (Some n) ∷ earlier) = Some n
counter_kept (_ ∷ earlier) = counter_kept earlier

-- A TPM2_PolicyAuthValue is among them.
abbrev pub asks_auth_value : List Assertion → Bool
asks_auth_value [] = false
asks_auth_value (AuthValueAsserted ∷ earlier) = true
asks_auth_value (_ ∷ earlier) = asks_auth_value earlier

-- what a session holds of its assertions
pub record Policy : Type 0 where
  pub digest : List ℕ
  pub code : Option ℕ
  pub update_counter : Option ℕ
  pub auth_value : Bool

abbrev pub policy_of : Alg → List Assertion → Policy
policy_of alg made = record {
  digest = policy_digest alg made;
  code = code_set made;
  update_counter = counter_kept made;
  auth_value = asks_auth_value made;
}
