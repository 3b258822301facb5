use Rattle.tpm_hmac.proofs.Trimming.{trim-zeros, trim-last, trim-trim}
use Rattle.tpm_hmac.proofs.laws.trimmed.Goals as goal

pub returns : goal.returns
returns c = record { zeros = trim-zeros; last = trim-last; again = trim-trim }
