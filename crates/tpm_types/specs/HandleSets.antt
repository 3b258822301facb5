-- The handles of a command that are of one kind or another, as values.
use Rattle.std.specs.Prelude.{ℕ, Option, Some, None, if◌then◌else◌}
use Rattle.tpm_types.specs.Handles.{rh_owner, rh_null, is_owner, is_null, is_pcr, is_nv_index}
use Rattle.tpm_types.specs.declared.handle_sets.PcrOrNull.{PcrOrNull}
use Rattle.tpm_types.specs.declared.handle_sets.NvAuthHandle.{NvAuthHandle}
use Rattle.tpm_types.specs.declared.handle_sets.BindHandle.{BindHandle}
use Rattle.tpm_types.specs.declared.handle_sets.PcrOrNull.TheVariants as registers
use Rattle.tpm_types.specs.declared.handle_sets.NvAuthHandle.TheVariants as authorities
use Rattle.tpm_types.specs.declared.handle_sets.BindHandle.TheVariants as binds

-- ---- a register or none, TPMI_DH_PCR+ (Part 2, 9.7)

abbrev pub pcr_or_null_of : ℕ → Option PcrOrNull
pcr_or_null_of n = if is_null n then Some registers.Null else if is_pcr n then Some (registers.Pcr n) else None

abbrev pub pcr_or_null_number : PcrOrNull → ℕ
pcr_or_null_number registers.Null = rh_null
pcr_or_null_number (registers.Pcr n) = n

-- ---- the owner or an index, TPMI_RH_NV_AUTH without the platform (Part 2, 9.22)

abbrev pub nv_auth_of : ℕ → Option NvAuthHandle
nv_auth_of n = if is_owner n then Some authorities.Owner else if is_nv_index n then Some (authorities.Index n) else None

abbrev pub nv_auth_number : NvAuthHandle → ℕ
nv_auth_number authorities.Owner = rh_owner
nv_auth_number (authorities.Index n) = n

-- ---- the owner or nothing: TPMI_DH_ENTITY+ of this profile (Part 2, 9.6)

abbrev pub bind_of : ℕ → Option BindHandle
bind_of n = if is_owner n then Some binds.Owner else if is_null n then Some binds.Null else None

abbrev pub bind_number : BindHandle → ℕ
bind_number binds.Owner = rh_owner
bind_number binds.Null = rh_null
