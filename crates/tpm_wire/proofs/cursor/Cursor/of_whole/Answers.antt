use Rattle.std.proofs.Common.{List, ℕ, ◌∙◌, ap, sym, arith}
use Rattle.std.proofs.lemmas.List.{take_all, length-take}
use Rattle.tpm_wire.specs.Token.{at_start}
use Rattle.tpm_wire.specs.Buffers.{Place}
use Rattle.tpm_wire.proofs.cursor.Cursor.of_whole.Goals as goal

abbrev begin : List ℕ → Place
begin bytes = record { here = at_start bytes; number = 0 }

pub slice_bounds-new-end : goal.slice_bounds-new-end
slice_bounds-new-end c = omega (arith, length-take 4096 c.args.bytes.now, c.if-bytes-gt-MOST_LOOKED_AT.true)

pub new-requires : goal.new-requires
new-requires c = omega (arith, length-take 4096 c.args.bytes.now)

pub returns : goal.returns
returns c = c.new-2.ensures ∙ ap begin (sym (take_all 4096 c.args.bytes.now c.if-bytes-gt-MOST_LOOKED_AT.false))
