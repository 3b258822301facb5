use Rattle.std.proofs.Common.{arith, length-append}
use Rattle.tpm_types.specs.Tpms.{selection}
use Rattle.tpm_types.proofs.tpms.SelectionWire.has_spelling.Goals as goal

pub returns-clause-some : goal.returns-clause-some
unfolding selection
returns-clause-some c = simp length-append (omega (arith, c.has_spelling.ensures.some))
