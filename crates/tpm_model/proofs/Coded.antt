-- The layouts of a command refuse with codes.
use Rattle.std.proofs.Common.{ℕ, ◌+◌, ◌<◌, Bool, true, false, List, [], ◌∷◌, length, arith}
use Rattle.std.specs.Prelude.{◌==◌}
use Rattle.tpm_wire.specs.Buffers.{Layout}
use Rattle.tpm_wire.specs.Layout.{either}
use Rattle.tpm_wire.specs.ResponseCodes.{rc_reserved_bits, rc_value}
use Rattle.tpm_types.specs.Alg.{hash}
use Rattle.tpm_types.specs.Constants.{session_type, key_bits}
use Rattle.tpm_types.specs.Handles.{auth_session, nv_index, is_auth_session, is_nv_index}
use Rattle.tpm_types.specs.Limits.{digest_bytes, banks, public_bytes}
use Rattle.tpm_types.specs.Tpma.{session_attrs, nv_attrs, is_session_attrs, is_nv_attrs}
use Rattle.tpm_types.specs.Tpm2b.{encrypted_salt}
use Rattle.tpm_types.specs.Tpml.{selections}
use Rattle.tpm_types.specs.Tpms.{selection, auth_command, nv_public_area, nv_public}
use Rattle.tpm_types.specs.Tpmt.{digest_value, algorithm, mode, sym_def}
use Rattle.tpm_commands.specs.declared.command_handles.HandleKind.{HandleKind}
use Rattle.tpm_types.specs.declared.command_code.CommandCode.{CommandCode}
use Rattle.tpm_types.specs.CommandCodes.{command_code}
use Rattle.tpm_commands.specs.Handles.{admits, handles_from, handles, handle_kinds}
use Rattle.tpm_commands.specs.Commands.Session.{start_auth_session}
use Rattle.tpm_types.specs.declared.command_code.CommandCode.TheVariants as codes
use Rattle.tpm_buffer.specs.Commands.{tag, command_size, header, sessions, authorization_size, authorization}
use Rattle.tpm_model.proofs.Nonzero.{IsCoded, coded_in, coded_number, coded_sized_bytes, coded_sized, coded_counted}

coded_either : {A : Type 0} (b : Bool) (x y : Layout A) → IsCoded x → IsCoded y → IsCoded (either b x y)
coded_either true x y c d = c
coded_either false x y c d = d

-- ---- before the parameters

pub coded_header : IsCoded header
unfolding header tag command_size command_code
coded_header = (
  coded_in 2 _ 0x01E (omega arith, omega arith),
  λ t. (coded_number _ 0x142 (omega arith, omega arith), λ n. (coded_number _ 0x143 (omega arith, omega arith), λ code. tt)),
)

coded_handles_from : (i : ℕ) (kinds : List HandleKind) → i + length kinds < 256 → IsCoded (handles_from i kinds)
coded_handles_from i [] small = tt
coded_handles_from i (kind ∷ kinds) small = (
  (omega (arith, small), coded_in 4 (admits kind) rc_value (omega arith, omega arith)),
  λ n. (coded_handles_from (i + 1) kinds (omega (arith, small)), λ ns. tt),
)

pub few_kinds : (code : CommandCode) → 1 + length (handle_kinds code) < 256
few_kinds codes.NvUndefineSpace = omega arith
few_kinds codes.NvIncrement = omega arith
few_kinds _ = omega arith

pub coded_handles : (code : CommandCode) → IsCoded (handles code)
coded_handles code = coded_handles_from 1 (handle_kinds code) (few_kinds code)

coded_auth_command : IsCoded auth_command
unfolding auth_command auth_session session_attrs
coded_auth_command = (
  coded_in 4 is_auth_session rc_value (omega arith, omega arith),
  λ s. (
    coded_sized_bytes digest_bytes,
    λ n. (coded_in 1 is_session_attrs rc_reserved_bits (omega arith, omega arith), λ a. (coded_sized_bytes digest_bytes, λ hmac. tt)),
  ),
)

coded_sessions : IsCoded sessions
unfolding sessions
coded_sessions = λ before room. (omega (arith, room), coded_auth_command)

pub coded_authorization : (t : ℕ) → IsCoded (authorization t)
unfolding authorization authorization_size
coded_authorization t = coded_either (t == 0x8002) _ _ (coded_number _ 0x144 (omega arith, omega arith), λ n. ((omega arith, omega arith), coded_sessions)) tt

-- ---- the parameters

coded_hash : IsCoded hash
unfolding hash
coded_hash = coded_number _ 0x083 (omega arith, omega arith)

coded_selection : IsCoded selection
unfolding selection
coded_selection = (coded_hash, λ alg. (coded_in 1 _ rc_value (omega arith, omega arith), λ n. (λ bytes. tt, λ select. tt)))

pub coded_digest_value : IsCoded digest_value
unfolding digest_value
coded_digest_value = (coded_hash, λ alg. (λ bytes. tt, λ d. tt))

coded_sym_def : IsCoded sym_def
unfolding sym_def algorithm key_bits mode
coded_sym_def = (
  coded_in 2 _ 0x096 (omega arith, omega arith),
  λ n. coded_either (n == 0x0010) _ _ tt (coded_either (n == 0x0006) _ _
      (coded_number _ rc_value (omega arith, omega arith), λ bits. (coded_in 2 _ 0x089 (omega arith, omega arith), λ m. tt)) (coded_hash, λ alg. tt)),
)

pub coded_public : IsCoded nv_public
unfolding nv_public nv_public_area nv_index nv_attrs
coded_public = coded_sized public_bytes nv_public_area (
  coded_in 4 is_nv_index rc_value (omega arith, omega arith),
  λ index. (
    coded_hash,
    λ alg. (
      coded_in 4 is_nv_attrs rc_reserved_bits (omega arith, omega arith),
      λ attrs. (coded_sized_bytes digest_bytes, λ policy. (λ left n. tt, λ data_size. tt)),
    ),
  ),
)

pub coded_selections : IsCoded selections
coded_selections = coded_counted 0 banks selection coded_selection

pub coded_start : IsCoded start_auth_session
unfolding start_auth_session encrypted_salt session_type
coded_start = (
  (omega arith, coded_sized_bytes digest_bytes),
  λ n. (
    (omega arith, coded_number _ rc_value (omega arith, omega arith)),
    λ salt. (
      (omega arith, coded_number _ rc_value (omega arith, omega arith)),
      λ kind.
          ((omega arith, coded_sym_def), λ symmetric. ((omega arith, coded_hash), λ alg. tt)),
    ),
  ),
)
