use Rattle.std.proofs.Common.{ap, ◌∙◌}
use Rattle.tpm_caller.proofs.Opening.{read_as, response_ok, is_reply}
use Rattle.tpm_caller.proofs.pending.no_reply.Goals as goal

pub returns-in-Err : goal.returns-in-Err
returns-in-Err c =
    read_as c.args.code c.args.bytes.now c.decode_response.result c.decode_response.ensures.ok
    c.decode_response.ensures.err
    ∙ c.in-Err.is

pub returns-in-Code : goal.returns-in-Code
returns-in-Code c =
    read_as c.args.code c.args.bytes.now c.decode_response.result c.decode_response.ensures.ok
    c.decode_response.ensures.err
    ∙ c.in-Ok.is
    ∙ ap response_ok c.in-Code.is

pub returns : goal.returns
returns c =
    is_reply c.args.code c.args.bytes.now c.in-Ok.response c.in_default.field-0 c.in_default.field-1.items
    ((c.decode_response.ensures.ok c.in-Ok.response).0 c.in-Ok.is) c.in-Ok.ensures.spelled c.in_default.is
