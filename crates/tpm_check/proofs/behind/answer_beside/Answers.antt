use Rattle.std.proofs.Common.{string_bytes}
use Rattle.std.proofs.lemmas.Result.{IfOk-weaker}
use Rattle.tpm_check.specs.Compare.{printed}
use Rattle.tpm_check.specs.inner.Told.{quote_by}
use Rattle.tpm_check.proofs.AllowedBoots.{said_alone, said_behind}
use Rattle.tpm_check.proofs.behind.answer_beside.Goals as goal

pub returns-in-Refused : goal.returns-in-Refused
returns-in-Refused g c =
    let answer = c.in_ok-said.said.answer in
    let first = printed answer.status (string_bytes answer.text) in
    let next = g.B.Behind.says c.args.behind.now in
    IfOk-weaker c.ended.result _ _ (λ a says.
    said_alone (quote_by c.args.quote) c.args.registers.now next first (printed a.status (string_bytes a.text)) c.in_ok-said.ensures.checks
    c.in-Refused.is says)
    c.ended.ensures

pub returns-in_ok-status-in-Done : goal.returns-in_ok-status-in-Done
returns-in_ok-status-in-Done g c =
    let said = c.in_ok-said.said in
    let first = printed said.answer.status (string_bytes said.answer.text) in
    let next = g.B.Behind.says c.args.behind.now in
    IfOk-weaker c.ended-in-Done.result _ _ (λ a says.
    said_behind (quote_by c.args.quote) c.args.registers.now next first (printed a.status (string_bytes a.text)) c.in_ok-said.ensures.checks c.in-Done.is
    said.selections c.in_ok-said.ensures.selects c.in_ok-status-in-Done.status (string_bytes c.push.new.text) c.in_ok-status-in-Done.ensures says)
    c.ended-in-Done.ensures
