-- What a policy command makes of a session (Part 1, "Enhanced Authorization"; Part 3, 23).
use Rattle.std.specs.Prelude.{ℕ, Option, Result}
use Rattle.tpm_wire.specs.Reading.{◌>>=◌}
use Rattle.tpm_session.specs.declared.policy.Assertion as declared
use Rattle.tpm_session.specs.declared.policy.Assertion.TheVariants as the
use Rattle.tpm_model.specs.Policies.Assertion.{PcrAsserted, OrAsserted, CodeAsserted, AuthValueAsserted}
use Rattle.tpm_model.specs.Policies.{Assertion}
use Rattle.tpm_model.specs.Sessions.{Session}
use Rattle.tpm_model.specs.Actions.{policy_session}

-- what a policy command answers, where its session is loaded
abbrev pub for_policy : {A : Type 0} → Option Session → (Session → Result A ℕ) → Result A ℕ
for_policy s answer = policy_session s >>= answer

-- what is asserted, without the places that it lies in
abbrev pub as_assertion : declared.Assertion → Assertion
as_assertion (the.Pcr selections pcr_digest update_counter) = PcrAsserted selections.now pcr_digest.now update_counter
as_assertion (the.Or digests) = OrAsserted digests.now
as_assertion (the.Code code) = CodeAsserted code
as_assertion the.AuthValue = AuthValueAsserted
