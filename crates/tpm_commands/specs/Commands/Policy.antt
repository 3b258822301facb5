-- The commands of policies (Part 3, 23).
use Rattle.std.specs.Prelude.{ℕ, List, [], ◌∷◌, false, codes}
use Rattle.tpm_wire.specs.Buffers.{Layout, any_number, numbered}
use Rattle.tpm_wire.specs.ResponseCodes.{of_parameter}
use Rattle.tpm_wire.specs.Layout.Form.{done, field}
use Rattle.tpm_types.specs.declared.tpms.Selection.{Selection}
use Rattle.tpm_types.specs.Tpm2b.{digest}
use Rattle.tpm_types.specs.Tpml.{selections, or_digests}
use Rattle.tpm_commands.specs.declared.command_handles.HandleKind.TheVariants.{Policy}
use Rattle.tpm_commands.specs.declared.command.Params.{Params}
use Rattle.tpm_commands.specs.declared.command.ReplyBody.{ReplyBody}
use Rattle.tpm_commands.specs.Row.{Row, named}
use Rattle.tpm_commands.specs.declared.command.Params.TheVariants as params
use Rattle.tpm_commands.specs.declared.command.ReplyBody.TheVariants as replies

-- ---- TPM2_PolicyOR (23.6)

abbrev pub or_digests_of : Params → List (List ℕ)
or_digests_of (params.PolicyOr digests) = digests
or_digests_of _ = [] ∷ [] ∷ []

unfoldable pub policy_or : Layout Params
policy_or =
    field or_digests_of (numbered (of_parameter 1) or_digests) (λ digests.
    done (params.PolicyOr digests))

abbrev pub policy_or_row : Row
policy_or_row = record {
  handles = Policy ∷ [];
  authorized = false;
  parameters = policy_or;
  reply = λ hs. done replies.PolicyOr;
  parameter_names = named (codes "pHashList") (codes "TPML_DIGEST") ∷ [];
  reply_names = [];
}

-- ---- TPM2_PolicyPCR (23.7)

abbrev pub digest_of : Params → List ℕ
digest_of (params.PolicyPcr p) = p.pcr_digest
digest_of _ = []

abbrev pub policy_selections_of : Params → List Selection
policy_selections_of (params.PolicyPcr p) = p.selections
policy_selections_of _ = []

unfoldable pub policy_pcr : Layout Params
policy_pcr =
    field digest_of (numbered (of_parameter 1) digest) (λ pcr_digest.
    field policy_selections_of (numbered (of_parameter 2) selections) (λ selected.
    done (params.PolicyPcr (record { pcr_digest = pcr_digest; selections = selected }))))

abbrev pub policy_pcr_row : Row
policy_pcr_row = record {
  handles = Policy ∷ [];
  authorized = false;
  parameters = policy_pcr;
  reply = λ hs. done replies.PolicyPcr;
  parameter_names =
      named (codes "pcrDigest") (codes "TPM2B_DIGEST")
      ∷ named (codes "pcrs") (codes "TPML_PCR_SELECTION")
      ∷ [];
  reply_names = [];
}

-- ---- TPM2_PolicyCommandCode (23.11)

abbrev pub code_of : Params → ℕ
code_of (params.PolicyCommandCode code) = code
code_of _ = 0

unfoldable pub policy_command_code : Layout Params
policy_command_code =
    field code_of (numbered (of_parameter 1) (any_number 4)) (λ code.
    done (params.PolicyCommandCode code))

abbrev pub policy_command_code_row : Row
policy_command_code_row = record {
  handles = Policy ∷ [];
  authorized = false;
  parameters = policy_command_code;
  reply = λ hs. done replies.PolicyCommandCode;
  parameter_names = named (codes "code") (codes "TPM_CC") ∷ [];
  reply_names = [];
}

-- ---- TPM2_PolicyAuthValue (23.17)

abbrev pub policy_auth_value_row : Row
policy_auth_value_row = record {
  handles = Policy ∷ [];
  authorized = false;
  parameters = done params.PolicyAuthValue;
  reply = λ hs. done replies.PolicyAuthValue;
  parameter_names = [];
  reply_names = [];
}

-- ---- TPM2_PolicyGetDigest (23.19)

abbrev pub reply_digest_of : ReplyBody → List ℕ
reply_digest_of (replies.PolicyGetDigest value) = value
reply_digest_of _ = []

unfoldable pub policy_get_digest_reply : Layout ReplyBody
policy_get_digest_reply =
    field reply_digest_of (numbered (of_parameter 1) digest) (λ value.
    done (replies.PolicyGetDigest value))

abbrev pub policy_get_digest_row : Row
policy_get_digest_row = record {
  handles = Policy ∷ [];
  authorized = false;
  parameters = done params.PolicyGetDigest;
  reply = λ hs. policy_get_digest_reply;
  parameter_names = [];
  reply_names = named (codes "policyDigest") (codes "TPM2B_DIGEST") ∷ [];
}
