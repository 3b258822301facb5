use Rattle.tpm_show.specs.FieldText.{field_begins}
use Rattle.tpm_show.proofs.Pieces.{pieces}
use Rattle.tpm_show.proofs.field_text.begin_field.Goals as goal

pub returns : goal.returns
unfolding field_begins
returns g c = simp pieces (simp (c.in_ok-tell_value_name.ensures, c.in_ok-tell_all.ensures, pieces) at c.tell.ensures)
