use Rattle.tpm_vouched.proofs.Allowing.{allowed_quoted}
use Rattle.tpm_vouched.proofs.laws.allowed_by_the_quote.Goals as goal

pub returns : goal.returns
returns c = allowed_quoted
