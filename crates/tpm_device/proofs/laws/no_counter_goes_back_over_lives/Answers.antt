use Rattle.tpm_device.proofs.Lives.{rises_over, rises_from_first, rises_from_none}
use Rattle.tpm_device.proofs.laws.no_counter_goes_back_over_lives.Goals as goal

pub returns-clause-later : goal.returns-clause-later
returns-clause-later c = rises_over

pub returns-clause-had : goal.returns-clause-had
returns-clause-had c = rises_from_first

pub returns-clause-made : goal.returns-clause-made
returns-clause-made c = rises_from_none
