use Rattle.tpm_show.specs.Passages.{packet_told}
use Rattle.tpm_show.proofs.Pieces.{pieces}
use Rattle.tpm_show.proofs.passage.tell_packet.Goals as goal

pub returns : goal.returns
unfolding packet_told
returns g c = simp pieces (simp (c.in_ok-tell_time.ensures, c.in_ok-tell_all.ensures, pieces) at c.tell_all-2.ensures)
