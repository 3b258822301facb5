use Rattle.std.proofs.Common.{sym, ◌∙◌}
use Rattle.tpm_nv.proofs.Found.{is_place, found_more}
use Rattle.tpm_nv.proofs.counters.place.Goals as goal

pub returns-then-has_index-clause-some : goal.returns-then-has_index-clause-some
returns-then-has_index-clause-some c =
    is_place c.args.index c.args.counters.now c.loop-k.k c.index-counters-k.result c.loop-k-test.true c.index-counters-k.is
    (sym c.has_index.ensures ∙ c.if-has_index.true) c.loop-k.invariant

pub loop-k-preserved : goal.loop-k-preserved
loop-k-preserved c =
    found_more c.args.index c.args.counters.now c.loop-k.k c.index-counters-k.result c.loop-k-test.true c.index-counters-k.is c.loop-k.invariant
    (sym c.has_index.ensures ∙ c.if-has_index.false)
