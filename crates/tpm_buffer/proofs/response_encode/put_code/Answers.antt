use Rattle.std.proofs.Common.{sym, ◌∙◌}
use Rattle.tpm_buffer.proofs.Answered.{code_spelled, code_text}
use Rattle.tpm_buffer.proofs.response_encode.put_code.Goals as goal

pub returns-clause-spells : goal.returns-clause-spells
returns-clause-spells g c code =
    code_spelled code c.args.error (g.R.Room.written c.put_header.new.out) c.put_header.ensures.number.0
    c.put_header.ensures.number.1 c.put_header.ensures.bytes

pub returns-clause-bytes : goal.returns-clause-bytes
returns-clause-bytes g c code = c.put_header.ensures.bytes ∙ sym (code_text code c.args.error c.put_header.ensures.number.0)
