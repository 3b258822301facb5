use Rattle.std.proofs.Common.{length}
use Rattle.tpm_bench.proofs.Came.{Reading}
use Rattle.tpm_bench.proofs.streams.tpm_bench_read_frames_into.Given as goal

abbrev pub invariant-loop-out : goal.invariant-loop-out
invariant-loop-out l = Reading l.fn.stream l.source.rest.now l.out l.fn.out l.written

abbrev pub decreases-loop-out : goal.decreases-loop-out
decreases-loop-out l = length l.source.rest.now
