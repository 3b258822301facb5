use Rattle.tpm_device.proofs.Ran.{as_the_model}
use Rattle.tpm_device.proofs.laws.answers_are_the_run.Goals as goal

pub returns : goal.returns
returns c = as_the_model
