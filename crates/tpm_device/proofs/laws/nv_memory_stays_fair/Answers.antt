use Rattle.tpm_device.proofs.Ran.{stays_fair}
use Rattle.tpm_device.proofs.laws.nv_memory_stays_fair.Goals as goal

pub returns : goal.returns
returns c = stays_fair
