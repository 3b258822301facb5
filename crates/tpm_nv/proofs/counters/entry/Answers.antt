use Rattle.std.proofs.Common.{Some, ap, sym, ◌∙◌}
use Rattle.tpm_nv.proofs.Found.{found_at, at_place}
use Rattle.tpm_nv.proofs.counters.entry.Goals as goal

pub returns-in-Some : goal.returns-in-Some
returns-in-Some c =
    let counters = c.args.counters.now in
    let p = c.in-Some.ensures.some in
    ap Some (c.index-counters-k.is ∙ at_place c.args.index c.in-Some.k counters p c.index-counters-k.result)
    ∙ sym (found_at c.args.index c.in-Some.k counters p)
