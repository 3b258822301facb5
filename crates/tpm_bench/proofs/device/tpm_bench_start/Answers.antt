use Rattle.std.proofs.Common.{◌∙◌, ◌∷◌}
use Rattle.tpm_model.specs.Steps.{PowerCycle}
use Rattle.tpm_bench.proofs.device.tpm_bench_start.Goals as goal

pub loop-preserved : goal.loop-preserved
loop-preserved c =
    let at = c.loop.invariant.stands in
    let later = c.answer_once.ensures.stands at.0 (PowerCycle ∷ at.1) (c.power_cycle.ensures at.0 at.1 at.2) in
    record { room = c.answer_once.ensures.room ∙ c.loop.invariant.room; stands = (at.0, later.0, later.1) }

pub returns : goal.returns
returns c =
    let at = c.loop.invariant.stands in
    let last = c.answer_once-2.ensures.answer at.0 (PowerCycle ∷ at.1) (c.power_cycle-2.ensures at.0 at.1 at.2) in
    (at.0, PowerCycle ∷ at.1, last.0, last.1)
