use Rattle.std.proofs.Common.{sym}
use Rattle.std.proofs.lemmas.Result.{IfOk-weaker}
use Rattle.tpm_check.specs.inner.Kinds.{as_row}
use Rattle.tpm_check.proofs.KindRows.{explains, unknown}
use Rattle.tpm_check.proofs.kinds.answer.Goals as goal

pub returns-in-Some : goal.returns-in-Some
returns-in-Some c =
    IfOk-weaker c.explained.result _ _ (λ a said. rw (said.0, said.1) (explains c.args.name.now (as_row c.in-Some.kind.now) (sym c.in-Some.ensures)))
    c.explained.ensures

pub returns-in-None : goal.returns-in-None
returns-in-None c = IfOk-weaker c.of.result _ _ (λ a said. rw (said.0, said.1) (unknown c.args.name.now (sym c.in-None.ensures))) c.of.ensures
