use Rattle.std.proofs.Common.{◌≤◌, length, subst, ap, arith, All}
use Rattle.tpm_wire.specs.Spelling.{IsSpelled}
use Rattle.tpm_model.specs.Counters.{NvMemory}
use Rattle.tpm_model.specs.Actions.{most_counters}
use Rattle.tpm_model.specs.Kept.{kept_counter}
use Rattle.tpm_nv.proofs.Memory.{fits_memory, memory_long}
use Rattle.tpm_nv.proofs.kept.CountersWire.has_spelling.Goals as goal

pub returns-clause-fits : goal.returns-clause-fits
returns-clause-fits c left =
    let self : NvMemory = record { counters = c.self.inside.counters.items; greatest = c.self.inside.greatest } in
    let few : length self.counters ≤ most_counters = omega (arith, c.as_slice.ensures.fits, ap length c.as_slice.ensures.value) in
    let each : All (IsSpelled kept_counter) self.counters = subst (All (IsSpelled kept_counter)) c.as_slice.ensures.value c.known_list.ensures in
    rw (← c.self.view_is) (fits_memory self left (c.has_spelling.ensures.fits 0).0 few each c.self.invariant)

pub returns-clause-some : goal.returns-clause-some
returns-clause-some c = omega (arith, memory_long c.args.self.now)
