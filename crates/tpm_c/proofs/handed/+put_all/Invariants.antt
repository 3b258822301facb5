use Rattle.std.proofs.Common.{length}
use Rattle.tpm_c.proofs.handed.+put_all.Given as goal

abbrev pub decreases-put_all : goal.decreases-put_all
decreases-put_all l = length l.parts.now
