use Rattle.tpm_model.proofs.Lives.{twice_over}
use Rattle.tpm_model.proofs.laws.no_replay_over_lives.Goals as goal

pub returns : goal.returns
returns c = twice_over
