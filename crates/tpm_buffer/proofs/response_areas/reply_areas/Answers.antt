use Rattle.tpm_wire.specs.Buffers.{buffer}
use Rattle.tpm_wire.proofs.Buffers.{buffer_sound}
use Rattle.tpm_wire.proofs.Whole.{answers_value, answers_fault}
use Rattle.tpm_buffer.specs.Responses.{reply_cut}
use Rattle.tpm_buffer.proofs.response_areas.reply_areas.Goals as goal

pub returns-clause-ok : goal.returns-clause-ok
returns-clause-ok c = answers_value buffer buffer_sound (reply_cut c.args.code) c.args.bytes.now c.read_areas.result c.read_areas.ensures.reads

pub returns-clause-err : goal.returns-clause-err
returns-clause-err c = answers_fault buffer buffer_sound (reply_cut c.args.code) c.args.bytes.now c.read_areas.result c.read_areas.ensures.reads
