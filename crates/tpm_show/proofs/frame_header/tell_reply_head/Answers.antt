use Rattle.tpm_show.specs.Headers.{reply_head}
use Rattle.tpm_show.proofs.Pieces.{pieces}
use Rattle.tpm_show.proofs.frame_header.tell_reply_head.Goals as goal

pub returns : goal.returns
unfolding reply_head
returns g c =
    simp pieces (simp (
      c.in_ok-tell_code_name.ensures,
      c.in_ok-tell-2.ensures,
      c.in_ok-tell_size_and_tag.ensures,
      c.in_ok-tell_answered.ensures,
      c.in_ok-tell.ensures,
      pieces,
    ) at c.tell-3.ensures)
