use Rattle.std.proofs.Common.{◌≡◌, ◌*◌, ◌-◌, ◌^◌, ◌≤◌, length, min, take}
use Rattle.tpm_wire.specs.Spelling.{joined_all}
use Rattle.tpm_wire.proofs.counted.capped_len.Given as goal

abbrev pub invariant-loop-entry : goal.invariant-loop-entry
invariant-loop-entry g l = record {
  value : l.sum ≡ min (length (joined_all g.T.Wire.layout (take l.entry-index l.entries))) (2 ^ 64 - 1);
  fits : l.sum ≤ l.entry-index * g.T.Wire.most;
}
