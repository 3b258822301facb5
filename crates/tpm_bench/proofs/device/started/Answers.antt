use Rattle.std.proofs.Common.{[]}
use Rattle.tpm_model.specs.Steps.{Origin, new_origin}
use Rattle.tpm_model.specs.Answers.{next}
use Rattle.tpm_bench.proofs.device.started.Goals as goal

pub returns : goal.returns
returns c =
    let origin : Origin = new_origin c.args.owner.now 0 in
    (origin, next origin [] c.args.startup.now c.args.nonce.now, c.execute-answer.ensures.stands origin [] c.new-device.ensures)
