use Rattle.tpm_buffer.proofs.Prefix.{no_response_prefix}
use Rattle.tpm_buffer.proofs.laws.no_response_prefix.Goals as goal

pub returns : goal.returns
returns c = no_response_prefix
