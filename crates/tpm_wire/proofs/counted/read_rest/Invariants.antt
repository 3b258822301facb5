use Rattle.std.proofs.Common.{◌≡◌, ◌++◌, ◌+◌, ◌*◌, ◌-◌, ◌≤◌, length, true, []}
use Rattle.tpm_wire.specs.Spelling.{joined_all}
use Rattle.tpm_wire.specs.Reading.{read, entries}
use Rattle.tpm_wire.proofs.counted.read_rest.Given as goal

abbrev pub invariant-loop-entries : goal.invariant-loop-entries
invariant-loop-entries g l = record {
  so_far : entries (l.fn.most - length l.entries.items) l.entries.items true (λ before. read (l.fn.first + 0x100 * length before) g.T.Wire.layout) l.cursor.here
      ≡ entries l.fn.most [] true (λ before. read (l.fn.first + 0x100 * length before) g.T.Wire.layout) l.fn.cursor.here;
  few : length l.entries.items ≤ l.fn.most;
  spelled : l.fn.cursor.here.rest ≡ joined_all g.T.Wire.layout l.entries.items ++ l.cursor.here.rest;
}

abbrev pub decreases-loop-entries : goal.decreases-loop-entries
decreases-loop-entries g l = l.fn.most - length l.entries.items
