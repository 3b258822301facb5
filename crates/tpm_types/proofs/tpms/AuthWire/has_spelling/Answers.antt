use Rattle.std.proofs.Common.{arith, length-append, refl}
use Rattle.tpm_types.specs.Tpms.{auth_command}
use Rattle.tpm_types.proofs.tpms.AuthWire.has_spelling.Goals as goal

pub returns-clause-fits : goal.returns-clause-fits
unfolding auth_command
returns-clause-fits c left =
    (c.has_spelling.ensures.fits _, (c.has_spelling-2.ensures.fits _, (c.has_spelling-3.ensures.fits _, (c.has_spelling-4.ensures.fits _, refl))))

pub returns-clause-some : goal.returns-clause-some
unfolding auth_command
returns-clause-some c = simp length-append (omega (arith, c.has_spelling.ensures.some))
