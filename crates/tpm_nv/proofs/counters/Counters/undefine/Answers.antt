use Rattle.std.proofs.Common.{List, ap, rules, not}
use Rattle.arrayvec.proofs.ArrayVecLemmas.{filter-from_retain}
use Rattle.tpm_model.specs.Counters.{Counter, NvMemory, has_index}
use Rattle.tpm_model.proofs.Kept.{checked_without}
use Rattle.tpm_nv.proofs.counters.Counters.undefine.Goals as goal

pub returns-clause-undefined : goal.returns-clause-undefined
returns-clause-undefined c =
    let kept = filter-from_retain _ (λ (x : Counter). not (has_index c.args.index x)) _ (λ x b f' y called. search rules) _ _ c.retain.ensures.filtered in
    rw (← c.self.view_is) (ap (λ (l : List Counter). let r : NvMemory = record { counters = l; greatest = c.self.inside.greatest } in r) kept)

pub invariant_of-self : goal.invariant_of-self
invariant_of-self c =
    let kept = filter-from_retain _ (λ (x : Counter). not (has_index c.args.index x)) _ (λ x b f' y called. search rules) _ _ c.retain.ensures.filtered in
    rw kept (checked_without c.self.inside.greatest c.args.index c.self.inside.counters.items c.self.invariant)
