use Rattle.tpm_vouched.proofs.Same.{same_measured}
use Rattle.tpm_vouched.proofs.laws.records_of_the_register.Goals as goal

pub returns : goal.returns
returns c = same_measured
