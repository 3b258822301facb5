use Rattle.tpm_c.proofs.Judging.{are_judged}
use Rattle.tpm_c.proofs.command.judge_params.Goals as goal

pub returns-clause-spells : goal.returns-clause-spells
returns-clause-spells c =
    (are_judged c.args.code c.args.bytes.now c.decode_params_into.new.params c.decode_params_into.result c.decode_params_into.ensures.decodes).0

pub returns-clause-fault : goal.returns-clause-fault
returns-clause-fault c =
    (are_judged c.args.code c.args.bytes.now c.decode_params_into.new.params c.decode_params_into.result c.decode_params_into.ensures.decodes).1
