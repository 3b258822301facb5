use Rattle.tpm_stream.proofs.Streamed.{push_broken, next_broken}
use Rattle.tpm_stream.proofs.stream_laws.broken_for_ever.Goals as goal

pub returns : goal.returns
returns c = record { push = push_broken; next = next_broken }
