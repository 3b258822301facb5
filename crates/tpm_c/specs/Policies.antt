-- The digest of a policy in C's memory.
use Rattle.std.specs.Prelude.{◌≡◌, ℕ, Bool, true, false, ◌==◌, List, [], ◌++◌, length, take, drop, replicate, Option}
use Rattle.std.specs.Prelude.{Some, None, Result, Ok, Err}
use Rattle.tpm_wire.specs.declared.refusal.Refusal.{Refusal}
use Rattle.tpm_types.specs.declared.alg.Alg.{Alg}
use Rattle.tpm_types.specs.declared.tpms.Selection.{Selection}
use Rattle.tpm_types.specs.Alg.{alg_of, digest_len}
use Rattle.tpm_model.specs.Policies.Assertion.{PcrAsserted}
use Rattle.tpm_model.specs.Policies.{Assertion, asserted, policy_digest}
use Rattle.tpm_c.specs.declared.part.TpmRefusal.{TpmRefusal}
use Rattle.tpm_c.specs.declared.policy.TpmPolicy.{TpmPolicy}
use Rattle.tpm_c.specs.Calls.{Call}
use Rattle.tpm_c.specs.Parts.{refusal_of}

-- the bytes of it that are the digest
abbrev pub digest_in : Alg → TpmPolicy → List ℕ
digest_in alg p = take (digest_len alg) p.digest

-- A policy in the hash of this number asserts nothing; 4 is answered where there is no such hash.
abbrev pub IsEmpty : Option Alg → ℕ → Call TpmPolicy → Type 0
IsEmpty None hash call = (call.answer ≡ 4) × (call.new ≡ call.old)
IsEmpty (Some alg) hash call =
    (call.answer ≡ 0)
    × (call.new ≡ record { hash = hash; digest = replicate 48 0 })
    × (digest_in alg call.new ≡ policy_digest alg [])

-- the same, but for this digest
abbrev pub with_digest : List ℕ → TpmPolicy → TpmPolicy
with_digest digest p = record { hash = p.hash; digest = digest ++ drop (length digest) p.digest }

-- The policy asserts this too.
abbrev pub IsAsserted : Option Alg → Assertion → Call TpmPolicy → Type 0
IsAsserted None a call = (call.answer ≡ 4) × (call.new ≡ call.old)
IsAsserted (Some alg) a call =
    (call.answer ≡ 0)
    × (call.new ≡ with_digest (asserted alg a (digest_in alg call.old)) call.old)

-- what a call writes to that reads bytes: the policy, and the refusal of the bytes
pub record PolicyTold : Type 0 where
  pub policy : TpmPolicy
  pub refusal : TpmRefusal

-- what it does to the policy
abbrev pub of_policy : Call PolicyTold → Call TpmPolicy
of_policy call = record { answer = call.answer; old = call.old.policy; new = call.new.policy }

-- What the bytes spell is asserted, or their fault is told.
abbrev pub AssertsSpelled : {A : Type 0} → Result A Refusal → (A → Assertion) → Call PolicyTold → Type 0
AssertsSpelled (Ok x) assertion call =
    IsAsserted (alg_of call.old.policy.hash) (assertion x) (of_policy call)
    × (call.new.refusal ≡ call.old.refusal)
AssertsSpelled (Err e) assertion call =
    (call.answer ≡ 1)
    × (refusal_of call.new.refusal ≡ e)
    × (call.new.policy ≡ call.old.policy)

-- the values of registers have this digest
abbrev pub of_registers : List ℕ → List Selection → Assertion
of_registers pcr_digest selected = PcrAsserted selected pcr_digest None

-- So many bytes are a digest of the hash, or else 5 is answered.
abbrev pub IsIfLength : Bool → Type 0 → Call PolicyTold → Type 0
IsIfLength true then call = then
IsIfLength false then call = (call.answer ≡ 5) × (call.new ≡ call.old)

-- The hash comes before the length of the composite, and both before the selection.
abbrev pub IsPcrAsserted : Option Alg → List ℕ → Result (List Selection) Refusal → Call PolicyTold → Type 0
IsPcrAsserted None pcr_digest selected call = (call.answer ≡ 4) × (call.new ≡ call.old)
IsPcrAsserted (Some alg) pcr_digest selected call =
    IsIfLength (length pcr_digest == digest_len alg) (AssertsSpelled selected (of_registers pcr_digest) call) call
