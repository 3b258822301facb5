use Rattle.tpm_buffer.proofs.response_areas.take_behind_code.Given as goal

abbrev pub ghost-take_with_sessions : goal.ghost-take_with_sessions
ghost-take_with_sessions g a = g.bytes
