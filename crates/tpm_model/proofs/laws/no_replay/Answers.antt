use Rattle.tpm_model.proofs.Replay.{twice}
use Rattle.tpm_model.proofs.laws.no_replay.Goals as goal

pub returns : goal.returns
returns c = twice
