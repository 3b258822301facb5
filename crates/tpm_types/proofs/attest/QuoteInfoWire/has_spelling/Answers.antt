use Rattle.std.proofs.Common.{arith, length-append, refl}
use Rattle.tpm_types.specs.Attest.{quote_info}
use Rattle.tpm_types.proofs.attest.QuoteInfoWire.has_spelling.Goals as goal

pub returns-clause-fits : goal.returns-clause-fits
unfolding quote_info
returns-clause-fits c left = (c.has_spelling.ensures.fits _, (c.has_spelling-2.ensures.fits _, refl))

pub returns-clause-some : goal.returns-clause-some
unfolding quote_info
returns-clause-some c = simp length-append (omega (arith, c.has_spelling.ensures.some))
