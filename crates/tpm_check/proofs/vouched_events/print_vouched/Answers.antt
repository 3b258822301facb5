use Rattle.std.proofs.lemmas.Result.{IfOk-weaker}
use Rattle.std.proofs.Common.{List, string_bytes, subst, sym}
use Rattle.tpm_types.specs.declared.tpms.Selection.{Selection}
use Rattle.tpm_check.specs.CheckAttest.{Selects}
use Rattle.tpm_check.specs.Compare.{printed}
use Rattle.tpm_check.specs.VouchedEvents.{Quoted}
use Rattle.tpm_check.proofs.VouchedLists.{lists}
use Rattle.tpm_check.proofs.vouched_events.print_vouched.Goals as goal

pub returns-in_ok-answer-in-Ok-clause-ok : goal.returns-in_ok-answer-in-Ok-clause-ok
returns-in_ok-answer-in-Ok-clause-ok g c =
    let said = c.in_ok-said-in-Ok.said in
    let answer = c.in_ok-answer-in-Ok.answer in
    let is = c.in-Ok.ensures.found in
    let q : Quoted = record { listing = c.args.listing; attest = c.args.quote.attest.now; options = c.args.quote.options.now } in
    IfOk-weaker c.print_behind.result _ _ (λ status told. (
      told.0,
      lists q c.args.bytes.now c.in-Ok.log c.in-Ok.registers (printed said.answer.status (string_bytes said.answer.text)) answer.status status
          (string_bytes answer.text) told.0 is.0 is.1 c.in_ok-said-in-Ok.ensures.checks c.in_ok-answer-in-Ok.ensures
          (told.1 c.args.quote.attest.now (subst (λ (ss : List Selection). Selects c.args.quote.attest.now ss) (sym c.as_slice.ensures.value)
          c.in_ok-said-in-Ok.ensures.selects)),
      told.2,
    )) c.print_behind.ensures.ok
