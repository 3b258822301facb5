use Rattle.std.proofs.Common.{◌≡◌, ◌++◌, ◌-◌, length, false, []}
use Rattle.tpm_wire.specs.Spelling.{joined_all}
use Rattle.tpm_wire.specs.Reading.{read, entries}
use Rattle.tpm_wire.proofs.counted.read_list.Given as goal

abbrev pub invariant-loop : goal.invariant-loop
invariant-loop g l = record {
  so_far : entries (l.fn.count - l.counter) l.entries.items false (λ _. read l.fn.cursor.number g.T.Wire.layout) l.cursor.here
      ≡ entries l.fn.count [] false (λ _. read l.fn.cursor.number g.T.Wire.layout) l.fn.cursor.here;
  number : l.cursor.number ≡ l.fn.cursor.number;
  spelled : l.fn.cursor.here.rest ≡ joined_all g.T.Wire.layout l.entries.items ++ l.cursor.here.rest;
  len : length l.entries.items ≡ l.counter;
}
