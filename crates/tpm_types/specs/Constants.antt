-- Numbers that stand for a choice (Part 2, 6 and 11.1).
use Rattle.std.specs.Prelude.{ℕ, Option, Some, None, ◌==◌, if◌then◌else◌}
use Rattle.tpm_wire.specs.Buffers.{Layout}
use Rattle.tpm_wire.specs.Layout.Form.{number}
use Rattle.tpm_wire.specs.ResponseCodes.{rc_value}
use Rattle.tpm_types.specs.declared.constants.StartupType.TheVariants.{Clear, State}
use Rattle.tpm_types.specs.declared.constants.StartupType.{StartupType}
use Rattle.tpm_types.specs.declared.constants.SessionType.TheVariants.{Hmac, Policy, Trial}
use Rattle.tpm_types.specs.declared.constants.SessionType.{SessionType}
use Rattle.tpm_types.specs.declared.constants.KeyBits.TheVariants.{Bits128, Bits256}
use Rattle.tpm_types.specs.declared.constants.KeyBits.{KeyBits}

-- ---- TPM_SU (6.10)

abbrev pub startup_of : ℕ → Option StartupType
startup_of n = if n == 0 then Some Clear else if n == 1 then Some State else None

abbrev pub startup_number : StartupType → ℕ
startup_number Clear = 0
startup_number State = 1

unfoldable pub startup_type : Layout StartupType
startup_type = number 2 (λ left. startup_of) startup_number rc_value

-- ---- TPM_SE (6.11)

abbrev pub session_type_of : ℕ → Option SessionType
session_type_of n = if n == 0 then Some Hmac else if n == 1 then Some Policy else if n == 3 then Some Trial else None

abbrev pub session_type_number : SessionType → ℕ
session_type_number Hmac = 0
session_type_number Policy = 1
session_type_number Trial = 3

unfoldable pub session_type : Layout SessionType
session_type = number 1 (λ left. session_type_of) session_type_number rc_value

-- ---- TPMI_AES_KEY_BITS (11.1.2)

abbrev pub key_bits_of : ℕ → Option KeyBits
key_bits_of n = if n == 128 then Some Bits128 else if n == 256 then Some Bits256 else None

abbrev pub key_bits_number : KeyBits → ℕ
key_bits_number Bits128 = 128
key_bits_number Bits256 = 256

unfoldable pub key_bits : Layout KeyBits
key_bits = number 2 (λ left. key_bits_of) key_bits_number rc_value
