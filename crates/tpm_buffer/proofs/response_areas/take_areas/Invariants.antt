use Rattle.tpm_buffer.proofs.response_areas.take_areas.Given as goal

abbrev pub ghost-take_behind_code : goal.ghost-take_behind_code
ghost-take_behind_code g a = g.bytes
