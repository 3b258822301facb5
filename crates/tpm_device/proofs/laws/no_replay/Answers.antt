use Rattle.tpm_device.proofs.Ran.{not_twice}
use Rattle.tpm_device.proofs.laws.no_replay.Goals as goal

pub returns : goal.returns
returns c = not_twice
