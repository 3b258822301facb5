use Rattle.tpm_buffer.proofs.response_areas.read_areas.Given as goal

abbrev pub ghost-take_areas : goal.ghost-take_areas
ghost-take_areas a = a.cursor.now.here.rest
