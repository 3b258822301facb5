use Rattle.tpm_model.specs.Counters.{Counter}
use Rattle.tpm_nv.specs.Definitions.{value_in}
use Rattle.tpm_nv.proofs.Memory.{fits_counter}
use Rattle.tpm_nv.proofs.kept.CounterWire.has_spelling.Goals as goal

pub returns-clause-fits : goal.returns-clause-fits
returns-clause-fits c left =
    let d = c.self.inside.definition in
    let self : Counter = record { public = d.public; auth = d.auth; value = value_in c.self.inside.value } in
    rw (← c.self.view_is) (fits_counter self left c.self.invariant
    (λ n. rw c.public.ensures at c.has_spelling.ensures.fits n) (λ n. rw c.auth_value.ensures at c.has_spelling-2.ensures.fits n)
    (rw (← c.self.view_is) at (rw c.value.ensures at c.known_value.ensures)))
