use Rattle.std.proofs.Common.{rules, ◌≡◌, Some}
use Rattle.std.proofs.lemmas.Result.{IfOk-weaker}
use Rattle.tpm_check.specs.Asked.{asked_by}
use Rattle.tpm_check.proofs.Checks.{by_some}
use Rattle.tpm_check.proofs.vouched_events.list_vouched.Goals as goal

pub returns-clause-ok : goal.returns-clause-ok
returns-clause-ok g c =
    let attest = c.in-Some.attest.now in
    let given : (asked_by c.args.asked.now).attest ≡ Some attest = search rules in
    IfOk-weaker c.print_vouched.result _ _ (λ status printed. (
      c.as_slice.result.now,
      printed.0,
      rw c.as_slice.ensures.value c.in_ok-bytes.ensures.ok,
      by_some (asked_by c.args.asked.now).attest attest _ _ given printed.1,
      printed.2,
    )) c.print_vouched.ensures.ok
