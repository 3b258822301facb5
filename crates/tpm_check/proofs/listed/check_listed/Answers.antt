use Rattle.std.proofs.Common.{string_bytes, subst, sym}
use Rattle.std.proofs.lemmas.Result.{IfOk-weaker}
use Rattle.tpm_output.specs.declared.status.Status.{Status}
use Rattle.tpm_check.specs.Listed.{TellsListed}
use Rattle.tpm_check.proofs.listed.check_listed.Goals as goal

pub returns-clause-ok : goal.returns-clause-ok
returns-clause-ok g c =
    let text = string_bytes c.in_ok-answer.field-0.text in
    IfOk-weaker c.print.result _ _ (λ status printed. (
      text,
      subst (λ (s : Status). TellsListed c.args.form c.args.bytes.now s text) (sym printed.0) c.in_ok-answer.ensures,
      printed.1,
    )) c.print.ensures.ok
