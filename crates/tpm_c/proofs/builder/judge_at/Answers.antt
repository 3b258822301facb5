use Rattle.tpm_c.proofs.Judging.{spells_behind, fault_behind}
use Rattle.tpm_c.proofs.builder.judge_at.Goals as goal

pub returns-in-Ok-clause-spells : goal.returns-in-Ok-clause-spells
returns-in-Ok-clause-spells c =
    λ bytes front are. spells_behind bytes c.args.code c.args.at c.args.params.now front are c.in-Ok.ensures.spells

pub returns-in-Err-clause-fault : goal.returns-in-Err-clause-fault
returns-in-Err-clause-fault c =
    λ bytes front are. fault_behind bytes c.args.code c.args.at c.args.params.now c.in-Err.fault front are c.in-Err.ensures.fault.0
