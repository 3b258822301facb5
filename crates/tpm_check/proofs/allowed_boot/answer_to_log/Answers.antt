use Rattle.std.proofs.Common.{inl, inr}
use Rattle.std.proofs.lemmas.Result.{IfOk-weaker}
use Rattle.tpm_check.proofs.allowed_boot.answer_to_log.Goals as goal

pub returns-in-Ok : goal.returns-in-Ok
returns-in-Ok c =
    let found = c.in-Ok.ensures.found in
    IfOk-weaker c.answer_beside.result _ _ (λ a says. inl (c.in-Ok.log, found.0, (c.in-Ok.registers, found.1, says))) c.answer_beside.ensures

pub returns-in-Err : goal.returns-in-Err
returns-in-Err c =
    IfOk-weaker c.log_fault_answer.result _ _ (λ a said. inr (c.in-Err.fault, c.in-Err.ensures.fault, said)) c.log_fault_answer.ensures
