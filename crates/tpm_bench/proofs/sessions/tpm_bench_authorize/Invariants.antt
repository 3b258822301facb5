use Rattle.std.proofs.Common.{◌≤◌}
use Rattle.tpm_bench.proofs.sessions.tpm_bench_authorize.Given as goal

abbrev pub invariant-loop-counter : goal.invariant-loop-counter
invariant-loop-counter l = l.authorized ≤ l.counter
