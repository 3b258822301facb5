use Rattle.tpm_check.proofs.AllowedWhereDone.{allowed_done}
use Rattle.tpm_check.proofs.laws.allowed_where_done.Goals as goal

pub returns : goal.returns
returns c = allowed_done
