-- The commands of context management (Part 3, 28).
use Rattle.std.specs.Prelude.{ℕ, [], ◌∷◌, false, codes}
use Rattle.tpm_wire.specs.Buffers.{Layout, numbered}
use Rattle.tpm_wire.specs.ResponseCodes.{of_parameter}
use Rattle.tpm_wire.specs.Layout.Form.{done, field}
use Rattle.tpm_types.specs.Handles.{session}
use Rattle.tpm_commands.specs.declared.command.Params.{Params}
use Rattle.tpm_commands.specs.Row.{Row, named}
use Rattle.tpm_commands.specs.declared.command.Params.TheVariants as params
use Rattle.tpm_commands.specs.declared.command.ReplyBody.TheVariants as replies

-- ---- TPM2_FlushContext (28.4), whose handle is a parameter

abbrev pub session_of : Params → ℕ
session_of (params.FlushContext handle) = handle
session_of _ = 0x02000000

unfoldable pub flush_context : Layout Params
flush_context =
    field session_of (numbered (of_parameter 1) session) (λ handle.
    done (params.FlushContext handle))

abbrev pub flush_context_row : Row
flush_context_row = record {
  handles = [];
  authorized = false;
  parameters = flush_context;
  reply = λ hs. done replies.FlushContext;
  parameter_names = named (codes "flushHandle") (codes "TPMI_DH_CONTEXT") ∷ [];
  reply_names = [];
}
