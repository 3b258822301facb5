-- The commands of the registers (Part 3, 22).
use Rattle.std.specs.Prelude.{ℕ, List, [], ◌∷◌, true, false, codes}
use Rattle.tpm_wire.specs.Buffers.{Layout, any_number, numbered}
use Rattle.tpm_wire.specs.ResponseCodes.{of_parameter}
use Rattle.tpm_wire.specs.Layout.Form.{done, field}
use Rattle.tpm_wire.specs.Structures.{sized_bytes}
use Rattle.tpm_types.specs.declared.alg.Alg.{Alg}
use Rattle.tpm_types.specs.declared.tpms.Selection.{Selection}
use Rattle.tpm_types.specs.Tpml.{selections, digests, digest_values}
use Rattle.tpm_commands.specs.declared.command_handles.HandleKind.TheVariants.{Pcr, PcrOrNull}
use Rattle.tpm_commands.specs.declared.command.Params.{Params}
use Rattle.tpm_commands.specs.declared.command.ReplyBody.{ReplyBody}
use Rattle.tpm_commands.specs.Events.{event_bytes}
use Rattle.tpm_commands.specs.Row.{Row, named}
use Rattle.tpm_commands.specs.declared.command.Params.TheVariants as params
use Rattle.tpm_commands.specs.declared.command.ReplyBody.TheVariants as replies

-- ---- TPM2_PCR_Extend (22.2)

abbrev pub digests_of : Params → List (Alg × List ℕ)
digests_of (params.PcrExtend values) = values
digests_of _ = []

unfoldable pub pcr_extend : Layout Params
pcr_extend =
    field digests_of (numbered (of_parameter 1) digest_values) (λ values.
    done (params.PcrExtend values))

abbrev pub pcr_extend_row : Row
pcr_extend_row = record {
  handles = PcrOrNull ∷ [];
  authorized = true;
  parameters = pcr_extend;
  reply = λ hs. done replies.PcrExtend;
  parameter_names = named (codes "digests") (codes "TPML_DIGEST_VALUES") ∷ [];
  reply_names = [];
}

-- ---- TPM2_PCR_Event (22.3)

abbrev pub event_of : Params → List ℕ
event_of (params.PcrEvent event) = event
event_of _ = []

unfoldable pub pcr_event : Layout Params
pcr_event =
    field event_of (numbered (of_parameter 1) (sized_bytes event_bytes)) (λ event.
    done (params.PcrEvent event))

abbrev pub event_digests_of : ReplyBody → List (Alg × List ℕ)
event_digests_of (replies.PcrEvent values) = values
event_digests_of _ = []

unfoldable pub pcr_event_reply : Layout ReplyBody
pcr_event_reply =
    field event_digests_of (numbered (of_parameter 1) digest_values) (λ values.
    done (replies.PcrEvent values))

abbrev pub pcr_event_row : Row
pcr_event_row = record {
  handles = PcrOrNull ∷ [];
  authorized = true;
  parameters = pcr_event;
  reply = λ hs. pcr_event_reply;
  parameter_names = named (codes "eventData") (codes "TPM2B_EVENT") ∷ [];
  reply_names = named (codes "digests") (codes "TPML_DIGEST_VALUES") ∷ [];
}

-- ---- TPM2_PCR_Read (22.4)

abbrev pub selections_of : Params → List Selection
selections_of (params.PcrRead selected) = selected
selections_of _ = []

unfoldable pub pcr_read : Layout Params
pcr_read =
    field selections_of (numbered (of_parameter 1) selections) (λ selected.
    done (params.PcrRead selected))

abbrev pub counter_of : ReplyBody → ℕ
counter_of (replies.PcrRead counter selected values) = counter
counter_of _ = 0

abbrev pub reply_selections_of : ReplyBody → List Selection
reply_selections_of (replies.PcrRead counter selected values) = selected
reply_selections_of _ = []

abbrev pub values_of : ReplyBody → List (List ℕ)
values_of (replies.PcrRead counter selected values) = values
values_of _ = []

unfoldable pub pcr_read_reply : Layout ReplyBody
pcr_read_reply =
    field counter_of (numbered (of_parameter 1) (any_number 4)) (λ counter.
    field reply_selections_of (numbered (of_parameter 2) selections) (λ selected.
    field values_of (numbered (of_parameter 3) digests) (λ values.
    done (replies.PcrRead counter selected values))))

abbrev pub pcr_read_row : Row
pcr_read_row = record {
  handles = [];
  authorized = false;
  parameters = pcr_read;
  reply = λ hs. pcr_read_reply;
  parameter_names = named (codes "pcrSelectionIn") (codes "TPML_PCR_SELECTION") ∷ [];
  reply_names =
      named (codes "pcrUpdateCounter") (codes "UINT32")
      ∷ named (codes "pcrSelectionOut") (codes "TPML_PCR_SELECTION")
      ∷ named (codes "pcrValues") (codes "TPML_DIGEST")
      ∷ [];
}

-- ---- TPM2_PCR_Reset (22.8)

abbrev pub pcr_reset_row : Row
pcr_reset_row = record {
  handles = Pcr ∷ [];
  authorized = true;
  parameters = done params.PcrReset;
  reply = λ hs. done replies.PcrReset;
  parameter_names = [];
  reply_names = [];
}
