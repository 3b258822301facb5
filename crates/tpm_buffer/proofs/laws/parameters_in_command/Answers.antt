use Rattle.tpm_buffer.proofs.Staged.{of_parts, of_params}
use Rattle.tpm_buffer.proofs.laws.parameters_in_command.Goals as goal

pub returns-clause-value : goal.returns-clause-value
returns-clause-value c = of_parts

pub returns-clause-fault : goal.returns-clause-fault
returns-clause-fault c = of_params
