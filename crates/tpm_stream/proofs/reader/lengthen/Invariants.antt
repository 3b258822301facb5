use Rattle.std.proofs.Common.{◌-◌, ◌≤◌, length}
use Rattle.tpm_stream.proofs.reader.lengthen.Given as goal

abbrev pub invariant-loop-frame : goal.invariant-loop-frame
invariant-loop-frame l = record {
  within : length l.frame.items ≤ l.size;
}

abbrev pub decreases-loop-frame : goal.decreases-loop-frame
decreases-loop-frame l = l.size - length l.frame.items
