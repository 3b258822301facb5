use Rattle.tpm_device.proofs.Ran.{rises, rises_from_the_start}
use Rattle.tpm_device.proofs.laws.no_counter_goes_back.Goals as goal

pub returns-clause-had : goal.returns-clause-had
returns-clause-had c = rises

pub returns-clause-made : goal.returns-clause-made
returns-clause-made c = rises_from_the_start
