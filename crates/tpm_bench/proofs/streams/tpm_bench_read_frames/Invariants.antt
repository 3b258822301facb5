use Rattle.std.proofs.Common.{length}
use Rattle.tpm_bench.proofs.Came.{Reading}
use Rattle.tpm_bench.proofs.streams.tpm_bench_read_frames.Given as goal

abbrev pub invariant-loop-frame : goal.invariant-loop-frame
invariant-loop-frame l = Reading l.fn.stream l.source.rest.now l.out l.fn.out l.written

abbrev pub decreases-loop-frame : goal.decreases-loop-frame
decreases-loop-frame l = length l.source.rest.now
