use Rattle.std.proofs.Common.{arith, ◌∙◌}
use Rattle.std.proofs.lemmas.List.{length-set}
use Rattle.tpm_lists.proofs.Spelling.{values_more}
use Rattle.tpm_lists.proofs.digits.values_of.Goals as goal

pub loop-at-preserved : goal.loop-at-preserved
loop-at-preserved c =
    let l = c.loop-at in (
      length-set l.values l.at c.value.result ∙ l.invariant.0,
      values_more c.args.digits.now l.values l.at c.value.result (omega (arith, l.invariant.0, c.requires, c.loop-at-test.true)) c.value.ensures.value
          l.invariant.1,
    )
