use Rattle.tpm_buffer.proofs.Within.{cut_ok, cut_err}
use Rattle.tpm_buffer.proofs.command_decode.areas.Goals as goal

pub returns-clause-ok : goal.returns-clause-ok
returns-clause-ok c = cut_ok c.args.bytes.now c.any_areas.result c.any_areas.ensures.reads

pub returns-clause-err : goal.returns-clause-err
returns-clause-err c = cut_err c.args.bytes.now c.any_areas.result c.any_areas.ensures.reads
