use Rattle.tpm_stream.proofs.Streamed.{some, one, rest_is, first}
use Rattle.tpm_stream.proofs.stream_laws.frames_of_a_stream.Goals as goal

pub returns : goal.returns
returns c = record { some = some; one = one; rest = rest_is; first = first }
