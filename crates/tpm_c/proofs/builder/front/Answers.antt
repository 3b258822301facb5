use Rattle.tpm_buffer.proofs.Staged.{of_before}
use Rattle.tpm_c.proofs.Judging.{front_of}
use Rattle.tpm_c.proofs.builder.front.Goals as goal

pub returns-in-Ok-clause-front : goal.returns-in-Ok-clause-front
returns-in-Ok-clause-front c =
    let cut = c.in-Ok.areas in
    front_of c.args.joined.now cut c.code.result c.params_at.result ((c.areas.ensures.ok cut).0 c.in-Ok.is) c.in-Ok.ensures.spelled
    c.code.ensures c.params_at.ensures.value

pub returns-in-Err-clause-fault : goal.returns-in-Err-clause-fault
returns-in-Err-clause-fault c = of_before c.args.joined.now c.in-Err.fault ((c.areas.ensures.err c.in-Err.fault).0 c.in-Err.is)
