-- Structures of several fields: TPMS (Part 2, 10 to 13).
use Rattle.std.specs.Prelude.{ℕ, ◌/◌, ◌%◌, Bool, List, slice_index, ◌==◌}
use Rattle.tpm_wire.specs.Buffers.{Layout, number_in, any_number}
use Rattle.tpm_wire.specs.Layout.Form.{field, done}
use Rattle.tpm_wire.specs.Layout.{raw}
use Rattle.tpm_wire.specs.Structures.{sized}
use Rattle.tpm_wire.specs.ResponseCodes.{rc_value}
use Rattle.tpm_types.specs.Limits.{public_bytes}
use Rattle.tpm_types.specs.Alg.{hash}
use Rattle.tpm_types.specs.Handles.{nv_index, auth_session}
use Rattle.tpm_types.specs.Tpma.{is_set, session_attrs, nv_attrs}
use Rattle.tpm_types.specs.Tpm2b.{digest, nonce, auth_value}
use Rattle.tpm_types.specs.declared.tpms.Selection.{Selection}
use Rattle.tpm_types.specs.declared.tpms.NvPublic.{NvPublic}
use Rattle.tpm_types.specs.declared.tpms.Auth.{Auth}
use Rattle.tpm_types.specs.declared.tpms.AuthReply.{AuthReply}

-- how many bytes of bits, one for each register, a selection has
abbrev pub select_bytes : ℕ
select_bytes = 3

-- TPMS_PCR_SELECTION (10.6.2)
unfoldable pub selection : Layout Selection
selection =
    field (λ s. s.hash) hash (λ alg.
    field (λ _. select_bytes) (number_in 1 (λ n. n == select_bytes) rc_value) (λ n.
    field (λ s. s.select) (raw n) (λ select.
    done (record { hash = alg; select = select }))))

-- register i is selected: bit i mod 8 of byte i div 8
abbrev pub is_selected : List ℕ → ℕ → Bool
is_selected select i = is_set (i % 8) (slice_index select (i / 8))

-- TPMS_AUTH_COMMAND (10.13.2)
unfoldable pub auth_command : Layout Auth
auth_command =
    field (λ a. a.session) auth_session (λ session.
    field (λ a. a.nonce) nonce (λ nonce.
    field (λ a. a.attrs) session_attrs (λ attrs.
    field (λ a. a.hmac) auth_value (λ hmac.
    done (record { session = session; nonce = nonce; attrs = attrs; hmac = hmac })))))

-- TPMS_AUTH_RESPONSE (10.13.3)
unfoldable pub auth_response : Layout AuthReply
auth_response =
    field (λ a. a.nonce) nonce (λ nonce.
    field (λ a. a.attrs) session_attrs (λ attrs.
    field (λ a. a.hmac) auth_value (λ hmac.
    done (record { nonce = nonce; attrs = attrs; hmac = hmac }))))

-- TPMS_NV_PUBLIC (13.5)
unfoldable pub nv_public_area : Layout NvPublic
nv_public_area =
    field (λ p. p.index) nv_index (λ index.
    field (λ p. p.alg) hash (λ alg.
    field (λ p. p.attrs) nv_attrs (λ attrs.
    field (λ p. p.policy) digest (λ policy.
    field (λ p. p.data_size) (any_number 2) (λ data_size.
    done (record { index = index; alg = alg; attrs = attrs; policy = policy; data_size = data_size }))))))

-- TPM2B_NV_PUBLIC (13.6)
unfoldable pub nv_public : Layout NvPublic
nv_public = sized public_bytes nv_public_area
