use Rattle.std.proofs.Common.{string_bytes, subst, sym}
use Rattle.std.proofs.lemmas.Result.{IfOk-weaker}
use Rattle.tpm_output.specs.declared.status.Status.{Status}
use Rattle.tpm_check.specs.ExtendsTold.{TellsExtends}
use Rattle.tpm_check.proofs.extends.check_extends.Goals as goal

pub returns-clause-ok : goal.returns-clause-ok
returns-clause-ok g c =
    let bytes = c.as_slice.result.now in
    let text = string_bytes c.in_ok-answer.field-0.text in
    IfOk-weaker c.print.result _ _ (λ status printed. (
      bytes,
      text,
      rw c.as_slice.ensures.value c.in_ok-bytes.ensures.ok,
      subst (λ (s : Status). TellsExtends bytes s text) (sym printed.0) c.in_ok-answer.ensures,
      printed.1,
    )) c.print.ensures.ok
