use Rattle.std.proofs.Common.{◌≡◌, length}
use Rattle.tpm_model.specs.Kept.{check_counters}
use Rattle.tpm_nv.proofs.kept.check_counters.Given as goal

abbrev pub decreases-loop-counter : goal.decreases-loop-counter
decreases-loop-counter l = length l.rest

abbrev pub invariant-loop-counter : goal.invariant-loop-counter
invariant-loop-counter l = check_counters l.fn.greatest l.rest ≡ check_counters l.fn.greatest l.fn.counters
