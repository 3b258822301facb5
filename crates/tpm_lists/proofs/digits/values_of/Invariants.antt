use Rattle.std.proofs.Common.{◌≡◌, length}
use Rattle.tpm_lists.specs.inner.Digits.{AreValues}
use Rattle.tpm_lists.proofs.digits.values_of.Given as goal

-- the values so far
abbrev pub invariant-loop-at : goal.invariant-loop-at
invariant-loop-at l = (length l.values ≡ 96) × AreValues l.digits l.values l.at
