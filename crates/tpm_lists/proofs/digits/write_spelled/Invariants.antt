use Rattle.tpm_lists.proofs.Spelling.{AreWritten}
use Rattle.tpm_lists.proofs.digits.write_spelled.Given as goal

-- the bytes so far
abbrev pub invariant-loop-at : goal.invariant-loop-at
invariant-loop-at l = AreWritten l.digits l.bytes l.at
