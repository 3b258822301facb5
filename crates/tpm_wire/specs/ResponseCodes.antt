-- Response codes, TPM_RC (Part 2, 6.6), under their names in the standard, and the numbers that are added to them.
use Rattle.std.specs.Prelude.{ℕ, ◌+◌, ◌*◌}

-- ---- codes to which no number is added (6.6.3, RC_VER1 and RC_WARN)

abbrev pub rc_bad_tag : ℕ
rc_bad_tag = 0x01E

abbrev pub rc_initialize : ℕ
rc_initialize = 0x100

abbrev pub rc_auth_missing : ℕ
rc_auth_missing = 0x125

abbrev pub rc_pcr_changed : ℕ
rc_pcr_changed = 0x128

abbrev pub rc_auth_unavailable : ℕ
rc_auth_unavailable = 0x12F

abbrev pub rc_command_size : ℕ
rc_command_size = 0x142

abbrev pub rc_command_code : ℕ
rc_command_code = 0x143

abbrev pub rc_authsize : ℕ
rc_authsize = 0x144

abbrev pub rc_auth_context : ℕ
rc_auth_context = 0x145

abbrev pub rc_nv_range : ℕ
rc_nv_range = 0x146

abbrev pub rc_nv_authorization : ℕ
rc_nv_authorization = 0x149

abbrev pub rc_nv_uninitialized : ℕ
rc_nv_uninitialized = 0x14A

abbrev pub rc_nv_space : ℕ
rc_nv_space = 0x14B

abbrev pub rc_nv_defined : ℕ
rc_nv_defined = 0x14C

abbrev pub rc_session_memory : ℕ
rc_session_memory = 0x903

abbrev pub rc_locality : ℕ
rc_locality = 0x907

-- the first handle refers to nothing that is there
abbrev pub rc_reference_h0 : ℕ
rc_reference_h0 = 0x910

-- the first session refers to nothing that is there
abbrev pub rc_reference_s0 : ℕ
rc_reference_s0 = 0x918

-- ---- codes of a handle, a parameter or a session, to which its number is added (6.6.3, RC_FMT1)

abbrev pub rc_attributes : ℕ
rc_attributes = 0x082

-- a hash that is none of this profile
abbrev pub rc_hash : ℕ
rc_hash = 0x083

-- a value outside its set
abbrev pub rc_value : ℕ
rc_value = 0x084

-- a mode of a symmetric algorithm that isn't CFB
abbrev pub rc_mode : ℕ
rc_mode = 0x089

abbrev pub rc_handle : ℕ
rc_handle = 0x08B

abbrev pub rc_auth_fail : ℕ
rc_auth_fail = 0x08E

abbrev pub rc_nonce : ℕ
rc_nonce = 0x08F

-- bytes left over in an area, and a size or count outside its bounds
abbrev pub rc_size : ℕ
rc_size = 0x095

-- a symmetric algorithm
abbrev pub rc_symmetric : ℕ
rc_symmetric = 0x096

-- too few bytes
abbrev pub rc_insufficient : ℕ
rc_insufficient = 0x09A

abbrev pub rc_policy_fail : ℕ
rc_policy_fail = 0x09D

abbrev pub rc_integrity : ℕ
rc_integrity = 0x09F

-- a reserved bit that is set
abbrev pub rc_reserved_bits : ℕ
rc_reserved_bits = 0x0A1

abbrev pub rc_bad_auth : ℕ
rc_bad_auth = 0x0A2

abbrev pub rc_policy_cc : ℕ
rc_policy_cc = 0x0A4

-- ---- what is added to the codes of a handle, a parameter or a session, each counted from 1 (6.6.2)

abbrev pub of_handle : ℕ → ℕ
of_handle n = 0x100 * n

abbrev pub of_parameter : ℕ → ℕ
of_parameter n = 0x040 + 0x100 * n

abbrev pub of_session : ℕ → ℕ
of_session n = 0x800 + 0x100 * n

-- the greatest of them, that of parameter 15
abbrev pub greatest_number : ℕ
greatest_number = 0xF40
