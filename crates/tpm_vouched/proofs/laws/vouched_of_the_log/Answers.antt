use Rattle.tpm_vouched.proofs.Told.{told}
use Rattle.tpm_vouched.proofs.laws.vouched_of_the_log.Goals as goal

pub returns : goal.returns
returns c = told
