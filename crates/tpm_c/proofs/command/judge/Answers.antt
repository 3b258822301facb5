use Rattle.tpm_c.proofs.command.judge.Goals as goal

pub returns-in-Ok-clause-spells : goal.returns-in-Ok-clause-spells
returns-in-Ok-clause-spells c = (c.in-Ok.field-0, (c.decode_command.ensures.ok c.in-Ok.field-0).0 c.in-Ok.is)

pub returns-in-Err-clause-fault : goal.returns-in-Err-clause-fault
returns-in-Err-clause-fault c = (c.decode_command.ensures.err c.in-Err.fault).0 c.in-Err.is
