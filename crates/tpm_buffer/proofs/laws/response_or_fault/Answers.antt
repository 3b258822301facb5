use Rattle.tpm_wire.specs.Buffers.{buffer}
use Rattle.tpm_wire.proofs.Buffers.{buffer_sound}
use Rattle.tpm_wire.proofs.Whole.{exactly_one}
use Rattle.tpm_buffer.specs.Responses.{response}
use Rattle.tpm_buffer.proofs.laws.response_or_fault.Goals as goal

pub returns : goal.returns
returns c code = exactly_one buffer buffer_sound (response code)
