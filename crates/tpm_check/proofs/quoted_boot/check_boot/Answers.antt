use Rattle.std.proofs.Common.{Bor, List, ℕ, ap, option_map, string_bytes, subst, sym}
use Rattle.std.proofs.lemmas.Result.{IfOk-weaker}
use Rattle.tpm_output.specs.declared.status.Status.{Status}
use Rattle.tpm_lists.specs.declared.allow_file.AllowFile.{AllowFile}
use Rattle.tpm_check.specs.Asked.{asked_by}
use Rattle.tpm_check.specs.QuotedBoot.{ChecksBoot}
use Rattle.tpm_check.proofs.AllowedBoots.{checks_boot}
use Rattle.tpm_check.proofs.quoted_boot.check_boot.Goals as goal

pub returns-in_ok-answer_to_source-in-Some-Some-clause-ok : goal.returns-in_ok-answer_to_source-in-Some-Some-clause-ok
returns-in_ok-answer_to_source-in-Some-Some-clause-ok g c =
    let asked = asked_by c.args.asked.now in
    let answer = c.in_ok-answer_to_source-in-Some-Some.field-0 in
    let text = string_bytes answer.text in
    let said = c.in_ok-answer_to_source-in-Some-Some.ensures.ok in
    let boot = checks_boot asked c.in-Some-Some.attest.now c.in-Some-Some.allow.now said.0 answer.status text
    (ap (option_map (λ (b : Bor (List ℕ)). b.now)) c.in-Some-Some.is-0) (ap (option_map (λ (b : Bor AllowFile). b.now)) c.in-Some-Some.is-1) said.2 in
    IfOk-weaker c.print.result _ _ (λ status printed. (
      said.0,
      text,
      said.1,
      subst (λ (s : Status). ChecksBoot asked said.0 s text) (sym printed.0) boot,
      printed.1,
    )) c.print.ensures.ok

pub returns-in_ok-answer-in_default-clause-ok : goal.returns-in_ok-answer-in_default-clause-ok
returns-in_ok-answer-in_default-clause-ok g c =
    let bytes = c.as_slice.result.now in
    let text = string_bytes c.in_ok-answer-in_default.field-0.text in
    IfOk-weaker c.print-in_default.result _ _ (λ status printed. (
      bytes,
      text,
      rw c.as_slice.ensures.value c.in_ok-bytes-in_default.ensures.ok,
      subst (λ (s : Status). ChecksBoot (asked_by c.args.asked.now) bytes s text) (sym printed.0) c.in_ok-answer-in_default.ensures,
      printed.1,
    )) c.print-in_default.ensures.ok
