use Rattle.tpm_stream.proofs.Streamed.{read_to_end, read_inside, read_broken}
use Rattle.tpm_stream.proofs.stream_laws.frames_read.Goals as goal

pub returns : goal.returns
returns c = record { end = read_to_end; inside = read_inside; broken = read_broken }
