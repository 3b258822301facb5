-- The commands of sessions (Part 3, 11).
use Rattle.std.specs.Prelude.{ℕ, List, [], ◌∷◌, false, codes, if◌then◌else◌}
use Rattle.tpm_wire.specs.Buffers.{Layout, numbered}
use Rattle.tpm_wire.specs.ResponseCodes.{of_handle, of_parameter}
use Rattle.tpm_wire.specs.Layout.Form.{done, field}
use Rattle.tpm_types.specs.declared.alg.Alg.TheVariants.{Sha256}
use Rattle.tpm_types.specs.declared.alg.Alg.{Alg}
use Rattle.tpm_types.specs.declared.constants.SessionType.TheVariants.{Hmac}
use Rattle.tpm_types.specs.declared.constants.SessionType.{SessionType}
use Rattle.tpm_types.specs.declared.tpm2b.EncryptedSalt.TheVariants.{Empty}
use Rattle.tpm_types.specs.declared.tpmt.SymDef.{SymDef}
use Rattle.tpm_types.specs.Alg.{hash}
use Rattle.tpm_types.specs.Constants.{session_type}
use Rattle.tpm_types.specs.Handles.{session, is_session}
use Rattle.tpm_types.specs.Tpm2b.{nonce, encrypted_salt}
use Rattle.tpm_types.specs.Tpmt.{sym_def}
use Rattle.tpm_types.specs.declared.tpmt.SymDef.TheVariants as symmetrics
use Rattle.tpm_commands.specs.declared.command_handles.HandleKind.TheVariants.{Null, OwnerOrNull, Policy}
use Rattle.tpm_commands.specs.declared.command.Params.{Params}
use Rattle.tpm_commands.specs.declared.command.ReplyBody.{ReplyBody}
use Rattle.tpm_commands.specs.Row.{Row, Field, named, first}
use Rattle.tpm_commands.specs.declared.command.Params.TheVariants as params
use Rattle.tpm_commands.specs.declared.command.ReplyBody.TheVariants as replies

-- ---- TPM2_StartAuthSession (11.1)

abbrev pub nonce_of : Params → List ℕ
nonce_of (params.StartAuthSession p) = p.nonce_caller
nonce_of _ = []

abbrev pub session_type_of : Params → SessionType
session_type_of (params.StartAuthSession p) = p.session_type
session_type_of _ = Hmac

abbrev pub symmetric_of : Params → SymDef
symmetric_of (params.StartAuthSession p) = p.symmetric
symmetric_of _ = symmetrics.Null

abbrev pub hash_of : Params → Alg
hash_of (params.StartAuthSession p) = p.auth_hash
hash_of _ = Sha256

unfoldable pub start_auth_session : Layout Params
start_auth_session =
    field nonce_of (numbered (of_parameter 1) nonce) (λ nonce_caller.
    field (λ _. Empty) (numbered (of_parameter 2) encrypted_salt) (λ salt.
    field session_type_of (numbered (of_parameter 3) session_type) (λ kind.
    field symmetric_of (numbered (of_parameter 4) sym_def) (λ symmetric.
    field hash_of (numbered (of_parameter 5) hash) (λ alg.
    done (params.StartAuthSession (record {
      nonce_caller = nonce_caller;
      session_type = kind;
      symmetric = symmetric;
      auth_hash = alg;
    })))))))

-- the handle of its reply
unfoldable pub session_handle : Layout (List ℕ)
session_handle = field first (numbered (of_handle 1) session) (λ n. done (n ∷ []))

-- the handle, or else one that is never met
abbrev pub session_in : ℕ → ℕ
session_in n = if is_session n then n else 0x02000000

abbrev pub nonce_tpm_of : ReplyBody → List ℕ
nonce_tpm_of (replies.StartAuthSession reply) = reply.nonce_tpm
nonce_tpm_of _ = []

unfoldable pub start_auth_session_reply : List ℕ → Layout ReplyBody
start_auth_session_reply hs =
    field nonce_tpm_of (numbered (of_parameter 1) nonce) (λ nonce_tpm.
    done (replies.StartAuthSession (record { session = session_in (first hs); nonce_tpm = nonce_tpm })))

abbrev pub start_auth_session_names : List Field
start_auth_session_names =
    named (codes "nonceCaller") (codes "TPM2B_NONCE")
    ∷ named (codes "encryptedSalt") (codes "TPM2B_ENCRYPTED_SECRET")
    ∷ named (codes "sessionType") (codes "TPM_SE")
    ∷ named (codes "symmetric") (codes "TPMT_SYM_DEF")
    ∷ named (codes "authHash") (codes "TPMI_ALG_HASH")
    ∷ []

abbrev pub start_auth_session_row : Row
start_auth_session_row = record {
  handles = Null ∷ OwnerOrNull ∷ [];
  authorized = false;
  parameters = start_auth_session;
  reply = λ hs. start_auth_session_reply hs;
  parameter_names = start_auth_session_names;
  reply_names = named (codes "nonceTPM") (codes "TPM2B_NONCE") ∷ [];
}

-- ---- TPM2_PolicyRestart (11.2)

abbrev pub policy_restart_row : Row
policy_restart_row = record {
  handles = Policy ∷ [];
  authorized = false;
  parameters = done params.PolicyRestart;
  reply = λ hs. done replies.PolicyRestart;
  parameter_names = [];
  reply_names = [];
}
