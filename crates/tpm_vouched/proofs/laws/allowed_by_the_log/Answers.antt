use Rattle.tpm_vouched.proofs.Allowing.{all_allowed}
use Rattle.tpm_vouched.proofs.laws.allowed_by_the_log.Goals as goal

pub returns : goal.returns
returns c = all_allowed
