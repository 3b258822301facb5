use Rattle.std.proofs.Common.{length}
use Rattle.tpm_check.proofs.allow_told.+first_lacking.Given as goal

abbrev pub decreases-first_lacking : goal.decreases-first_lacking
decreases-first_lacking l = length l.banks.now
