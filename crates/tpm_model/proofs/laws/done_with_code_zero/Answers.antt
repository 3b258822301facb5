use Rattle.tpm_model.proofs.Told.{told_done}
use Rattle.tpm_model.proofs.laws.done_with_code_zero.Goals as goal

pub returns : goal.returns
returns c = told_done
