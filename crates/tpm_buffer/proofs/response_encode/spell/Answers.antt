use Rattle.std.proofs.Common.{◌≡◌, sym}
use Rattle.tpm_commands.specs.Replies.{code_for_reply}
use Rattle.tpm_buffer.proofs.response_encode.spell.Goals as goal

pub returns-in-Code-clause-spells : goal.returns-in-Code-clause-spells
returns-in-Code-clause-spells c code a = rw c.in-Code.is (c.put_code.ensures.spells code)

pub returns-in-Code-clause-bytes : goal.returns-in-Code-clause-bytes
returns-in-Code-clause-bytes c code a = rw c.in-Code.is (c.put_code.ensures.bytes code)

pub returns-in-Done-clause-spells : goal.returns-in-Done-clause-spells
returns-in-Done-clause-spells c code a =
    let same : code ≡ code_for_reply c.in-Done.body = rw c.in-Done.is at a in
    rw (c.in-Done.is, same, sym c.as_slice.ensures.value) c.put_reply.ensures.spells

pub returns-in-Done-clause-bytes : goal.returns-in-Done-clause-bytes
returns-in-Done-clause-bytes c code a =
    let same : code ≡ code_for_reply c.in-Done.body = rw c.in-Done.is at a in
    rw (c.in-Done.is, same, sym c.as_slice.ensures.value) c.put_reply.ensures.bytes
