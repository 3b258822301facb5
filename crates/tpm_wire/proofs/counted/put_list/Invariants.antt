use Rattle.std.proofs.Common.{◌≡◌, ◌++◌, take}
use Rattle.tpm_wire.specs.Spelling.{joined_all}
use Rattle.tpm_wire.proofs.counted.put_list.Given as goal

abbrev pub invariant-loop-entry : goal.invariant-loop-entry
invariant-loop-entry g l = g.R.Room.written l.out ≡ g.R.Room.written l.fn.out ++ joined_all g.T.Wire.layout (take l.entry-index l.entries)
