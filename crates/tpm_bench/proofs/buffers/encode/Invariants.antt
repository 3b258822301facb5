use Rattle.std.proofs.Common.{◌≡◌, length}
use Rattle.tpm_bench.proofs.buffers.encode.Given as goal

abbrev pub invariant-loop : goal.invariant-loop
invariant-loop l = length l.out ≡ length l.fn.out
