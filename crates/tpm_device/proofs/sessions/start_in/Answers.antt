use Rattle.std.proofs.Common.{sym, ap, ◌∙◌}
use Rattle.tpm_wire.specs.Reading.{read_all}
use Rattle.tpm_types.specs.declared.handle_sets.BindHandle.{BindHandle}
use Rattle.tpm_types.specs.declared.command_code.CommandCode.TheVariants as codes
use Rattle.tpm_commands.specs.declared.command.CommandBody.TheVariants as bodies
use Rattle.tpm_commands.specs.declared.command.Params.TheVariants as params
use Rattle.tpm_commands.specs.Handles.{second}
use Rattle.tpm_commands.specs.Parameters.{parameters}
use Rattle.tpm_buffer.specs.Commands.{bind_in}
use Rattle.tpm_device.proofs.sessions.start_in.Goals as goal

pub returns-in-Ok-clause-read : goal.returns-in-Ok-clause-read
returns-in-Ok-clause-read c =
    let asked = c.decode_start_into.new.start in (
      params.StartAuthSession asked,
      sym (c.in-Ok.ensures ∙ ap (read_all (parameters codes.StartAuthSession)) c.params.ensures.value),
      sym (ap (λ (b : BindHandle).
          bodies.StartAuthSession (record { bind = b; params = asked })) (c.bind_in.ensures
          ∙ ap bind_in (c.second_handle.ensures ∙ ap second c.handles.ensures))),
    )
