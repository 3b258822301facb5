use Rattle.std.proofs.Common.{◌≡◌, Ok, sym, ap, ◌∙◌, rules}
use Rattle.tpm_wire.specs.Reading.{read_all}
use Rattle.tpm_types.specs.declared.command_code.CommandCode.TheVariants as codes
use Rattle.tpm_commands.specs.declared.command.ReplyBody.TheVariants as replies
use Rattle.tpm_commands.specs.declared.response.Response.TheVariants as responses
use Rattle.tpm_buffer.specs.Responses.{response}
use Rattle.tpm_c.specs.Callers.{reply_of, reply_in}
use Rattle.tpm_c.proofs.Decoding.{is_read, is_refused, no_reply}
use Rattle.tpm_c.proofs.caller.start_reply_in.Goals as goal

pub returns-in-StartAuthSession : goal.returns-in-StartAuthSession
returns-in-StartAuthSession c =
    let bytes = c.args.reply.now in let layout = response codes.StartAuthSession in let done = c.in-Ok-Done.field-0 in
    let read : read_all layout bytes ≡ Ok done = is_read layout bytes done ((c.decode_response.ensures.ok done).0 c.in-Ok-Done.is) in
    let shape : done ≡ responses.Done c.in-Ok-Done.body c.in-Ok-Done.field-0-1 = search rules in
    let body : c.in-Ok-Done.body ≡ replies.StartAuthSession c.in-StartAuthSession.reply = search rules in
    sym (ap reply_in read ∙ ap (λ r. reply_in (Ok r)) shape ∙ ap reply_of body)

pub returns-in_default : goal.returns-in_default
returns-in_default c =
    let bytes = c.args.reply.now in let layout = response codes.StartAuthSession in let done = c.in-Ok-Done.field-0 in
    let read : read_all layout bytes ≡ Ok done = is_read layout bytes done ((c.decode_response.ensures.ok done).0 c.in-Ok-Done.is) in
    let shape : done ≡ responses.Done c.in-Ok-Done.body c.in-Ok-Done.field-0-1 = search rules in
    no_reply c.in-Ok-Done.body c.in_default.not-StartAuthSession ∙ sym (ap reply_in read ∙ ap (λ r. reply_in (Ok r)) shape)

pub returns-in-Ok-Code : goal.returns-in-Ok-Code
returns-in-Ok-Code c =
    let bytes = c.args.reply.now in let layout = response codes.StartAuthSession in let refused = responses.Code c.in-Ok-Code.field-0-0 in
    let is : c.decode_response.result ≡ Ok refused = search rules in
    sym (ap reply_in (is_read layout bytes refused ((c.decode_response.ensures.ok refused).0 is)))

pub returns-in-Err : goal.returns-in-Err
returns-in-Err c =
    let bytes = c.args.reply.now in let layout = response codes.StartAuthSession in
    sym (ap reply_in (is_refused layout bytes c.in-Err.field-0 ((c.decode_response.ensures.err c.in-Err.field-0).0 c.in-Err.is)))
