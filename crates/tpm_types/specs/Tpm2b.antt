-- Sized buffers: a size, and that many bytes (Part 2, 10.4).
use Rattle.std.specs.Prelude.{ℕ, List, Option, Some, None, ◌==◌, if◌then◌else◌}
use Rattle.tpm_wire.specs.Buffers.{Layout}
use Rattle.tpm_wire.specs.Layout.Form.{number}
use Rattle.tpm_wire.specs.Structures.{sized_bytes}
use Rattle.tpm_wire.specs.ResponseCodes.{rc_value}
use Rattle.tpm_types.specs.Limits.{digest_bytes, name_bytes}
use Rattle.tpm_types.specs.declared.tpm2b.EncryptedSalt.TheVariants.{Empty}
use Rattle.tpm_types.specs.declared.tpm2b.EncryptedSalt.{EncryptedSalt}

-- TPM2B_DIGEST (10.4.2)
abbrev pub digest : Layout (List ℕ)
digest = sized_bytes digest_bytes

-- TPM2B_NONCE (10.4.4)
abbrev pub nonce : Layout (List ℕ)
nonce = sized_bytes digest_bytes

-- TPM2B_AUTH (10.4.5)
abbrev pub auth_value : Layout (List ℕ)
auth_value = sized_bytes digest_bytes

-- TPM2B_NAME (10.5.3)
abbrev pub name : Layout (List ℕ)
name = sized_bytes name_bytes

-- TPM2B_ENCRYPTED_SECRET (11.4.3) where sessions have no salt: a size of 0, in this profile
abbrev pub salt_of : ℕ → Option EncryptedSalt
salt_of n = if n == 0 then Some Empty else None

abbrev pub salt_size : EncryptedSalt → ℕ
salt_size Empty = 0

unfoldable pub encrypted_salt : Layout EncryptedSalt
encrypted_salt = number 2 (λ left. salt_of) salt_size rc_value
