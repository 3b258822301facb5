use Rattle.std.proofs.Common.{rules, refl, inl, arith, subst, length, false, ◌-◌, ◌∙◌, [], All}
use Rattle.tpm_wire.specs.Spelling.{IsSpelled}
use Rattle.tpm_wire.specs.Structures.{counted}
use Rattle.tpm_wire.proofs.Again.{fit_list}
use Rattle.tpm_wire.proofs.counted.CountedWire.has_spelling.Goals as goal

pub returns-clause-fits : goal.returns-clause-fits
unfolding counted
returns-clause-fits g c left =
    let each : All (IsSpelled g.T.Wire.layout) c.args.self.now =
    subst (All (IsSpelled g.T.Wire.layout)) (c.as_slice.ensures.value ∙ c.self.view_is) c.known_list.ensures in
    ((search rules, search rules), fit_list g.T.Wire.layout false (length c.args.self.now) (left - 4) [] c.args.self.now each (omega arith) (inl refl))
