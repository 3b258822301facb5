use Rattle.tpm_show.specs.Headers.{command_head}
use Rattle.tpm_show.proofs.Pieces.{pieces}
use Rattle.tpm_show.proofs.frame_header.tell_command_head.Goals as goal

pub returns : goal.returns
unfolding command_head
returns g c =
    simp pieces (simp (
      c.in_ok-tell_size_and_tag.ensures,
      c.in_ok-tell_command.ensures,
      c.in_ok-tell.ensures,
      c.to_be_bytes.ensures,
      pieces,
    ) at c.tell_all.ensures)
