use Rattle.std.proofs.Common.{◌≡◌, ◌+◌, ◌-◌, ◌≤◌, ℕ, List, length}
use Rattle.std.specs.Io.KnownBytes.{Appends, Consumes}
use Rattle.tpm_output.specs.inner.LineReading.{Holds}
use Rattle.tpm_output.proofs.input_lines.take_lines.Given as goal

-- the bytes so far are taken, and are not too many
abbrev pub invariant-loop-lines : goal.invariant-loop-lines
invariant-loop-lines g l = record {
  bytes : List ℕ;
  text : List ℕ;
  consumed : Consumes (g.R.Source.coming l.fn.input) (g.R.Source.coming l.input) bytes;
  count : l.read ≡ length bytes;
  added : Appends (g.W.Write.contents l.fn.out) (g.W.Write.contents l.out) text;
  holds : Holds g.S.LineSink.limits g.S.LineSink.takes l.fn.sink bytes text l.lines;
  at : g.S.LineSink.is_at l.lines.number l.lines.sink;
  number : l.lines.number ≤ l.read + 1;
  bound : l.read ≤ l.most;
  failures : g.R.Source.failed l.input ≡ g.R.Source.failed l.fn.input;
}

abbrev pub decreases-loop-lines : goal.decreases-loop-lines
decreases-loop-lines g l = l.most + 1 - l.read
