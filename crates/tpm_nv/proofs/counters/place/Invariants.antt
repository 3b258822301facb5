use Rattle.std.specs.Prelude.{◌≡◌, None, take}
use Rattle.tpm_model.specs.Counters.{counter_in}
use Rattle.tpm_nv.proofs.counters.place.Given as goal

abbrev pub invariant-loop-k : goal.invariant-loop-k
invariant-loop-k l = counter_in (take l.k l.counters) l.index ≡ None
