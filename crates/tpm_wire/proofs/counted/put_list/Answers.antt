use Rattle.std.proofs.Common.{◌∙◌, ap, sym, length, arith, ◌++◌, append_assoc, List, ℕ, take}
use Rattle.std.proofs.lemmas.List.{length-append}
use Rattle.tpm_wire.specs.Spelling.{joined_all, spelling}
use Rattle.tpm_wire.proofs.Loop.{joined_read, joined_fits}
use Rattle.tpm_wire.proofs.counted.put_list.Goals as goal

pub put-requires : goal.put-requires
put-requires g c =
    let fits = joined_fits g.T.Wire.layout c.args.entries.now c.loop-entry.entry-index c.entry-item.result c.loop-entry-test.true c.entry-item.is in
    omega (
      arith,
      fits,
      ap length c.loop-entry.invariant,
      length-append (g.R.Room.written c.args.out.now)
          (joined_all g.T.Wire.layout (take c.loop-entry.entry-index c.args.entries.now)),
    )

pub loop-entry-preserved : goal.loop-entry-preserved
loop-entry-preserved g c =
    let more = joined_read g.T.Wire.layout c.args.entries.now c.loop-entry.entry-index c.entry-item.result c.loop-entry-test.true c.entry-item.is in
    c.put.ensures ∙ ap (λ (r : List ℕ). r ++ spelling g.T.Wire.layout c.entry-item.result) c.loop-entry.invariant
    ∙ append_assoc (g.R.Room.written c.args.out.now) (joined_all g.T.Wire.layout (take c.loop-entry.entry-index c.args.entries.now))
    (spelling g.T.Wire.layout c.entry-item.result)
    ∙ ap (λ (r : List ℕ). (g.R.Room.written c.args.out.now) ++ r) (sym more)
