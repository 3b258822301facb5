-- The commands of start-up (Part 3, 9).
use Rattle.std.specs.Prelude.{[], ◌∷◌, false, codes}
use Rattle.tpm_wire.specs.Buffers.{Layout, numbered}
use Rattle.tpm_wire.specs.ResponseCodes.{of_parameter}
use Rattle.tpm_wire.specs.Layout.Form.{done, field}
use Rattle.tpm_types.specs.declared.constants.StartupType.TheVariants.{Clear}
use Rattle.tpm_types.specs.declared.constants.StartupType.{StartupType}
use Rattle.tpm_types.specs.Constants.{startup_type}
use Rattle.tpm_commands.specs.declared.command.Params.{Params}
use Rattle.tpm_commands.specs.Row.{Row, named}
use Rattle.tpm_commands.specs.declared.command.Params.TheVariants as params
use Rattle.tpm_commands.specs.declared.command.ReplyBody.TheVariants as replies

-- ---- TPM2_Startup (9.3)

abbrev pub startup_type_of : Params → StartupType
startup_type_of (params.Startup kind) = kind
startup_type_of _ = Clear

unfoldable pub startup : Layout Params
startup =
    field startup_type_of (numbered (of_parameter 1) startup_type) (λ kind.
    done (params.Startup kind))

abbrev pub startup_row : Row
startup_row = record {
  handles = [];
  authorized = false;
  parameters = startup;
  reply = λ hs. done replies.Startup;
  parameter_names = named (codes "startupType") (codes "TPM_SU") ∷ [];
  reply_names = [];
}
