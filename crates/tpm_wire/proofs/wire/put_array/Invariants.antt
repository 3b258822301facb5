use Rattle.std.proofs.Common.{◌≡◌, ◌++◌, take}
use Rattle.tpm_wire.proofs.wire.put_array.Given as goal

abbrev pub invariant-loop-i : goal.invariant-loop-i
invariant-loop-i g l = g.R.Room.written l.out ≡ g.R.Room.written l.fn.out ++ take l.i l.bytes
