use Rattle.std.proofs.Common.{◌≡◌, ◌≤◌, ◌+◌, ◌++◌, length, drop}
use Rattle.tpm_wire.proofs.wire.put_bytes.Given as goal

abbrev pub invariant-loop-piece : goal.invariant-loop-piece
invariant-loop-piece g l = record {
  bytes : g.R.Room.written l.out ++ l.rest ≡ g.R.Room.written l.fn.out ++ l.fn.bytes;
  room : length (g.R.Room.written l.out) + length l.rest ≤ g.R.Room.size;
}

abbrev pub decreases-loop-piece : goal.decreases-loop-piece
decreases-loop-piece g l = length l.rest

abbrev pub invariant-loop-byte : goal.invariant-loop-byte
invariant-loop-byte g l = record {
  bytes : g.R.Room.written l.out ++ drop l.byte-index l.byte-items ≡ g.R.Room.written l.fn.out ++ l.fn.bytes;
  room : length (g.R.Room.written l.out) + length (drop l.byte-index l.byte-items) ≤ g.R.Room.size;
}
