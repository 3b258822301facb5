use Rattle.std.proofs.Common.{All, take}
use Rattle.tpm_wire.specs.Spelling.{IsSpelled}
use Rattle.tpm_wire.proofs.counted.known_list.Given as goal

abbrev pub invariant-loop-entry : goal.invariant-loop-entry
invariant-loop-entry g l = All (IsSpelled g.T.Wire.layout) (take l.entry-index l.entries)
