use Rattle.tpm_hmac.proofs.DigestLengths.{length-digest, length-hmac}
use Rattle.tpm_hmac.proofs.KdfaBlocks.{length-kdfa}
use Rattle.tpm_hmac.proofs.laws.lengths.Goals as goal

pub returns : goal.returns
returns c = record { digests = length-digest; macs = length-hmac; derived_keys = length-kdfa }
