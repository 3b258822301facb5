use Rattle.tpm_show.proofs.Pieces.{pieces}
use Rattle.tpm_show.proofs.field.Field.tell_structure.Goals as goal

pub returns : goal.returns
returns g c =
    simp pieces (simp (
      c.in_ok-tell_parts.ensures,
      c.in_ok-begin_structure.ensures,
      c.as_slice.ensures.value,
      c.spelled.ensures,
      pieces,
    ) at c.end_structure.ensures)
