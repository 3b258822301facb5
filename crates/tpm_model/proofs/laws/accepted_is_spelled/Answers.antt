use Rattle.tpm_model.proofs.Accepted.{passed}
use Rattle.tpm_model.proofs.Spelled.{spelled_by}
use Rattle.tpm_model.proofs.laws.accepted_is_spelled.Goals as goal

pub returns : goal.returns
returns c = λ p bytes n d e. spelled_by p bytes n d (passed p bytes n d e)
