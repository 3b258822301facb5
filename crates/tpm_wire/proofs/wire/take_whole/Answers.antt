use Rattle.std.proofs.Common.{Ok, sym, ◌∙◌}
use Rattle.tpm_wire.proofs.Alone.{ends_so, whole_read}
use Rattle.tpm_wire.proofs.wire.take_whole.Goals as goal

pub returns : goal.returns
returns g c =
    whole_read g.T.Wire.layout c.args.bytes.now c.of_whole-cursor.result c.in_ok-value.value c.take.new.cursor.here
    (Ok c.in_ok-value.value) c.of_whole-cursor.ensures c.in_ok-value.ensures.reads.0
    (ends_so c.args.bytes.now c.take.new.cursor.here c.in_ok-value.value c.in_ok-end_of_whole.field-0
    (sym c.end_of_whole.ensures ∙ c.in_ok-end_of_whole.was {u = tt}))
