use Rattle.tpm_model.specs.Answers.{next}
use Rattle.tpm_bench.proofs.device.prepared.Goals as goal

pub loop-preserved : goal.loop-preserved
loop-preserved c =
    let at = c.loop.invariant in
    (at.0, next at.0 at.1 c.cut.result.0.now c.args.nonce.now, c.execute-answer.ensures.stands at.0 at.1 at.2)
