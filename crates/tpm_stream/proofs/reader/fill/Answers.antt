use Rattle.std.proofs.Common.{◌-◌, ◌<◌, length, ◌∙◌, refl, arith, rules}
use Rattle.std.proofs.lemmas.Result.{err_from_is_err_and}
use Rattle.tpm_stream.proofs.Filled.{consumes_both, front_read, meets_both, room_read}
use Rattle.tpm_stream.proofs.reader.fill.Goals as goal

pub returns-in_err-more-clause-ends : goal.returns-in_err-more-clause-ends
returns-in_err-more-clause-ends g c =
    let stop = err_from_is_err_and c.from_residual.result c.from_residual.ensures.1 in
    rw stop.1 (meets_both _ _ _ 0 0 c.loop-count.invariant.ends (c.in_err-more.ensures.ends.1 (λ is. is)))

pub returns-then-more-eq0-clause-ends : goal.returns-then-more-eq0-clause-ends
returns-then-more-eq0-clause-ends g c =
    let met = rw c.if-more-eq0.true at c.in_ok-more.ensures.ends in
    let some : 0 < length c.read.new.room = search rules in
    let ends = meets_both _ _ _ 0 1 c.loop-count.invariant.ends (met.0 (refl, some)) in
    (λ few. ends, λ all. absurd (omega (arith, all)))

pub loop-count-preserved : goal.loop-count-preserved
loop-count-preserved g c =
    let count = c.loop-count.count in
    let room = c.loop-count.room in
    let within = c.loop-count.invariant.within in
    let more = c.in_ok-more.ensures in
    record {
      within = room_read count (length room - count) c.in_ok-more.more room c.read.new.room within more.bound.0;
      bytes = rw (front_read count (length room - count) c.in_ok-more.more room c.read.new.room within more.bound.0)
          (consumes_both _ _ _ _ _ c.loop-count.invariant.bytes more.bytes.0);
      failures = more.count ∙ c.loop-count.invariant.failures;
      ends = meets_both _ _ _ 0 0 c.loop-count.invariant.ends (more.ends.1 (λ is. omega (arith, is.0)));
    }
