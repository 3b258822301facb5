use Rattle.std.proofs.Common.{rules}
use Rattle.tpm_buffer.proofs.Answered.{done_spelled}
use Rattle.tpm_buffer.proofs.response_encode.put_reply.Goals as goal

pub returns-clause-spells : goal.returns-clause-spells
returns-clause-spells c =
    done_spelled c.args.body.now c.args.auths.now c.put_reply_in.new.out.items (search rules) c.put_reply_in.ensures.short
    c.known_handles.ensures c.known_reply.ensures
