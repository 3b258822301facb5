use Rattle.tpm_show.proofs.fields.tell_event.Goals as goal

pub returns : goal.returns
returns g c = simp (c.as_slice.ensures.value, c.spelled_event.ensures) at c.tell_value.ensures
