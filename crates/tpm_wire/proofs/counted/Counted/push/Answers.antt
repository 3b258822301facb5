use Rattle.std.proofs.Common.{◌<◌, ◌∷◌, [], arith, length, length-append}
use Rattle.tpm_wire.proofs.Bounds.{small}
use Rattle.tpm_wire.proofs.counted.Counted.push.Goals as goal

pub invariant_of-self : goal.invariant_of-self
invariant_of-self g c =
    let items = c.self.inside.entries.items in
    let longer = length-append items (c.args.entry ∷ []) in
    let room : length items < g.row.MOST = rw c.self.view_is c.requires.room in
    rw c.push.ensures.items (
      omega (arith, longer, c.self.invariant.0),
      omega (arith, longer, room),
      omega (arith, longer, room, c.requires.count),
      λ large. absurd (omega (arith, large, small g.row.MOST g.T.Wire.most c.requires.count c.requires.short)),
    )
