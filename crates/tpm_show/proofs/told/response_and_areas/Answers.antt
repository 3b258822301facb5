use Rattle.std.proofs.Common.{refl}
use Rattle.std.proofs.lemmas.Result.{err_from_is_err_and}
use Rattle.tpm_wire.specs.Buffers.{buffer}
use Rattle.tpm_wire.proofs.Buffers.{buffer_sound}
use Rattle.tpm_wire.proofs.Whole.{exactly_one}
use Rattle.tpm_buffer.specs.Responses.{reply_cut}
use Rattle.tpm_show.proofs.told.response_and_areas.Goals as goal

pub returns-in_err-response-clause-err : goal.returns-in_err-response-clause-err
returns-in_err-response-clause-err c =
    let p = err_from_is_err_and c.from_residual.result c.from_residual.ensures.1 in
    rw (p.1, p.2) ((c.in_err-response.ensures.err _).0 refl)

-- A response has areas.
pub returns-in_err-areas-clause-err : goal.returns-in_err-areas-clause-err
returns-in_err-areas-clause-err c =
    let has = c.areas_of_a_response.ensures _ _ _ ((c.in_ok-response.ensures.ok _).0 refl) in
    absurd ((exactly_one buffer buffer_sound (reply_cut _) _).not_both has.0 _ has.1 ((c.in_err-areas.ensures.err _).0 refl))

pub returns-clause-ok : goal.returns-clause-ok
returns-clause-ok c = ((c.in_ok-response.ensures.ok _).0 refl, (c.in_ok-areas.ensures.ok _).0 refl)
