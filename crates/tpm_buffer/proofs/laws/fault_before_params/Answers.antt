use Rattle.tpm_buffer.proofs.Staged.{of_header, of_front, of_before}
use Rattle.tpm_buffer.proofs.laws.fault_before_params.Goals as goal

pub returns-clause-header : goal.returns-clause-header
returns-clause-header c = of_header

pub returns-clause-handles : goal.returns-clause-handles
returns-clause-handles c = of_front

pub returns-clause-sessions : goal.returns-clause-sessions
returns-clause-sessions c = of_before
