use Rattle.std.proofs.Common.{arith, length-append, refl}
use Rattle.tpm_types.specs.Attest.{clock_info}
use Rattle.tpm_types.proofs.attest.ClockInfoWire.has_spelling.Goals as goal

pub returns-clause-fits : goal.returns-clause-fits
unfolding clock_info
returns-clause-fits c left = (
  c.has_spelling.ensures.fits 0,
  (c.has_spelling-2.ensures.fits 0, (c.has_spelling-3.ensures.fits 0, (c.known_yes_no.ensures _, refl))),
)

pub returns-clause-some : goal.returns-clause-some
unfolding clock_info
returns-clause-some c = simp length-append (omega (arith, c.has_spelling.ensures.some))
