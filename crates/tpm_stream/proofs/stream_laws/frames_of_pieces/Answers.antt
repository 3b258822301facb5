use Rattle.tpm_stream.proofs.Streamed.{some_of_pieces, of_pieces, one_of_pieces, rest_of_pieces}
use Rattle.tpm_stream.proofs.stream_laws.frames_of_pieces.Goals as goal

pub returns : goal.returns
returns c = record { some = some_of_pieces; frames = of_pieces; split = one_of_pieces; rest = rest_of_pieces }
