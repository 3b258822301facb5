use Rattle.std.proofs.Common.{◌≡◌, ◌-◌, ◌≤◌, length, take}
use Rattle.std.specs.Io.KnownBytes.{Consumes}
use Rattle.tpm_wire.specs.Sources.{MeetsEnds}
use Rattle.tpm_stream.proofs.reader.fill.Given as goal

abbrev pub invariant-loop-count : goal.invariant-loop-count
invariant-loop-count g l = record {
  within : l.count ≤ length l.room;
  bytes : Consumes (g.R.Source.coming l.fn.source) (g.R.Source.coming l.source) (take l.count l.room);
  failures : g.R.Source.failed l.source ≡ g.R.Source.failed l.fn.source;
  ends : MeetsEnds (g.R.Source.ends l.fn.source) (g.R.Source.ends l.source) 0;
}

abbrev pub decreases-loop-count : goal.decreases-loop-count
decreases-loop-count g l = length l.initial.room - l.count
