use Rattle.std.proofs.Common.{◌≡◌, List, ◌∷◌, [], length, ap, ◌∙◌, subst}
use Rattle.tpm_types.specs.declared.tpms.Auth.{Auth}
use Rattle.tpm_wire.specs.Spelling.{spelling, Fits}
use Rattle.tpm_commands.specs.declared.command.Command.{Command}
use Rattle.tpm_commands.specs.declared.command.CommandBody.{CommandBody}
use Rattle.tpm_buffer.specs.Commands.{command, with_auths}
use Rattle.tpm_caller.proofs.caller.Caller.put_unsigned.Goals as goal

abbrev as_command : CommandBody → List Auth → Command
as_command body auths = record { body = body; auths = record { items = auths } }

pub returns : goal.returns
returns c =
    let x = c.unsigned-command.ensures.session in
    let made : c.unsigned-command.result ≡ with_auths c.args.body (x.0 ∷ []) =
    ap (λ (b : CommandBody). as_command b c.unsigned-command.result.auths.items) c.unsigned-command.ensures.body
    ∙ ap (as_command c.args.body) x.1 in (
      x.0,
      x.2,
      x.3,
      x.4,
      x.5,
      c.put_command.ensures.bytes ∙ ap (spelling command) made,
      subst (λ (z : Command). Fits (length c.put_command.new.out.items) command z) made c.put_command.ensures.fits,
    )
