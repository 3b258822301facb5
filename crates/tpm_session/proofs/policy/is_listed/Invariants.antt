use Rattle.std.specs.Prelude.{◌≡◌, drop}
use Rattle.tpm_model.specs.Actions.{is_listed as listed}
use Rattle.tpm_session.proofs.policy.is_listed.Given as goal

abbrev pub invariant-loop-listed : goal.invariant-loop-listed
invariant-loop-listed l = listed l.digest l.digests ≡ listed l.digest (drop l.listed-index l.digests)
