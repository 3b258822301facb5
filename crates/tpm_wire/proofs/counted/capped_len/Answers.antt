use Rattle.std.proofs.Common.{ap, length, arith, take}
use Rattle.std.proofs.lemmas.List.{length-append}
use Rattle.tpm_wire.specs.Spelling.{joined_all, spelling}
use Rattle.tpm_wire.proofs.Loop.{joined_read}
use Rattle.tpm_wire.proofs.counted.capped_len.Goals as goal

pub loop-entry-preserved : goal.loop-entry-preserved
loop-entry-preserved g c =
    let more = joined_read g.T.Wire.layout c.args.entries.now c.loop-entry.entry-index c.entry-item.result c.loop-entry-test.true c.entry-item.is in
    record {
      value =
          omega (
            arith,
            ap length more,
            length-append (joined_all g.T.Wire.layout (take c.loop-entry.entry-index c.args.entries.now))
                (spelling g.T.Wire.layout c.entry-item.result),
          );
      fits = omega arith;
    }
