use Rattle.std.proofs.Common.{◌≡◌, ◌++◌, length}
use Rattle.tpm_output.specs.Escapes.{path_text}
use Rattle.tpm_output.proofs.escapes.put_path_name.Given as goal

-- the text so far and that of the bytes that are left are the whole
abbrev pub invariant-loop-unit : goal.invariant-loop-unit
invariant-loop-unit g l = g.S.Sink.written l.sink ++ path_text l.left ≡ g.S.Sink.written l.initial.sink ++ path_text l.bytes

abbrev pub decreases-loop-unit : goal.decreases-loop-unit
decreases-loop-unit g l = length l.left
