use Rattle.std.proofs.Common.{◌≡◌, take}
use Rattle.tpm_wire.proofs.counted.duplicates.Given as goal

abbrev pub invariant-loop-entry : goal.invariant-loop-entry
invariant-loop-entry g l = l.found.items ≡ take l.entry-index l.entries
