use Rattle.std.proofs.Common.{◌≡◌, length}
use Rattle.tpm_stream.specs.Frames.{IsPart}
use Rattle.tpm_bench.proofs.Came.{Came}
use Rattle.tpm_bench.proofs.streams.tpm_bench_push_frames.Given as goal

abbrev pub invariant-loop-rest : goal.invariant-loop-rest
invariant-loop-rest l = record {
  came : Came l.fn.stream l.framer l.rest l.out l.written;
  part : IsPart l.framer;
  room : length l.out ≡ length l.fn.out;
}

abbrev pub decreases-loop-rest : goal.decreases-loop-rest
decreases-loop-rest l = length l.rest
