use Rattle.tpm_bench.proofs.device.answer_both.Goals as goal

pub returns-clause-stands : goal.returns-clause-stands
returns-clause-stands c o h at =
    let one = c.answer_once.ensures.stands o h at in
    c.answer_once-2.ensures.stands o one.0 one.1
