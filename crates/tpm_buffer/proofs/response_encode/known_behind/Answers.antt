use Rattle.tpm_buffer.proofs.Answered.{fits_sessions}
use Rattle.tpm_buffer.proofs.response_encode.known_behind.Goals as goal

pub returns : goal.returns
returns c =
    fits_sessions c.args.first.now c.args.others.now c.requires
    (record { fits = c.has_spelling.ensures.fits; some = c.has_spelling.ensures.some }) c.known_list.ensures
