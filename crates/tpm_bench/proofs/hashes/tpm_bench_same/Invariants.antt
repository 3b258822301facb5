use Rattle.std.proofs.Common.{◌≤◌}
use Rattle.tpm_bench.proofs.hashes.tpm_bench_same.Given as goal

abbrev pub invariant-loop : goal.invariant-loop
invariant-loop l = l.found ≤ l.counter
