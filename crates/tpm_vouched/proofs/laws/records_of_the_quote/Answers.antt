use Rattle.tpm_vouched.proofs.Quoted.{same_quoted}
use Rattle.tpm_vouched.proofs.laws.records_of_the_quote.Goals as goal

pub returns : goal.returns
returns c = same_quoted
