use Rattle.tpm_types.specs.Tpmt.{digest_value}
use Rattle.tpm_show.proofs.Pieces.{pieces}
use Rattle.tpm_show.proofs.parts.HashedDigestHasParts.tell_parts.Goals as goal

pub returns : goal.returns
unfolding digest_value
returns g c = simp pieces (simp (c.in_ok-tell.ensures, c.hash-hash.ensures, c.digest.ensures.value, pieces) at c.tell_value.ensures)
