use Rattle.tpm_model.specs.Counters.{Counter}
use Rattle.tpm_model.proofs.Kept.{incremented_kept}
use Rattle.tpm_nv.specs.Definitions.{value_in}
use Rattle.tpm_nv.proofs.KeptValues.{value_kept}
use Rattle.tpm_nv.proofs.counters.Counter.write.Goals as goal

pub invariant_of-self : goal.invariant_of-self
invariant_of-self c =
    let d = c.self.inside.definition in
    let old : Counter = record { public = d.public; auth = d.auth; value = value_in c.self.inside.value } in
    rw (c.write.ensures, value_kept c.args.value _ c.requires c.ranges.value.fits c.to_be_bytes-self-inside.ensures)
    (incremented_kept old c.args.value c.self.invariant c.requires)
