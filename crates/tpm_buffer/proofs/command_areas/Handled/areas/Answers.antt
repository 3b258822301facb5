use Rattle.tpm_types.proofs.Short.{ok, err}
use Rattle.tpm_buffer.proofs.Within.{has_areas}
use Rattle.tpm_buffer.proofs.command_areas.Handled.areas.Goals as goal

pub returns-in-Ok-clause-decodes : goal.returns-in-Ok-clause-decodes
returns-in-Ok-clause-decodes c = has_areas c.args.self (ok c.areas_into.new.areas) c.in-Ok.ensures.reads

pub returns-in-Err-clause-decodes : goal.returns-in-Err-clause-decodes
returns-in-Err-clause-decodes c = has_areas c.args.self (err c.in-Err.fault) c.in-Err.ensures.refuses
