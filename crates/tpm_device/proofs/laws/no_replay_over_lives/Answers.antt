use Rattle.tpm_device.proofs.Lives.{not_twice_over}
use Rattle.tpm_device.proofs.laws.no_replay_over_lives.Goals as goal

pub returns : goal.returns
returns c = not_twice_over
