-- Structures by a choice: TPMT (Part 2, 10.3 and 11.1).
use Rattle.std.specs.Prelude.{ℕ, List, ◌==◌, ◌||◌}
use Rattle.tpm_wire.specs.Buffers.{Layout, number_in}
use Rattle.tpm_wire.specs.Layout.Form.{field, done}
use Rattle.tpm_wire.specs.Layout.{either, raw}
use Rattle.tpm_wire.specs.ResponseCodes.{rc_mode, rc_symmetric}
use Rattle.tpm_types.specs.Alg.{hash, digest_len}
use Rattle.tpm_types.specs.declared.alg.Alg.TheVariants.{Sha256}
use Rattle.tpm_types.specs.declared.alg.Alg.{Alg}
use Rattle.tpm_types.specs.declared.tpmt.SymDef.TheVariants.{Null, Aes, Xor}
use Rattle.tpm_types.specs.declared.tpmt.SymDef.{SymDef}
use Rattle.tpm_types.specs.declared.constants.KeyBits.TheVariants.{Bits128}
use Rattle.tpm_types.specs.declared.constants.KeyBits.{KeyBits}
pub use Rattle.tpm_types.specs.Constants.{key_bits_of, key_bits_number, key_bits}

-- TPMT_HA (10.3.2): a hash, and a digest of as many bytes as it gives
unfoldable pub digest_value : Layout (Alg × List ℕ)
digest_value =
    field (λ d. d.0) hash (λ alg.
    field (λ d. d.1) (raw (digest_len alg)) (λ digest.
    done (alg, digest)))

-- TPM_ALG_ID (6.3)
abbrev pub alg_aes : ℕ
alg_aes = 0x0006

abbrev pub alg_xor : ℕ
alg_xor = 0x000A

abbrev pub alg_null : ℕ
alg_null = 0x0010

abbrev pub alg_cfb : ℕ
alg_cfb = 0x0043

-- TPMI_ALG_SYM+ (9.29)
unfoldable pub algorithm : Layout ℕ
algorithm = number_in 2 (λ n. n == alg_null || n == alg_aes || n == alg_xor) rc_symmetric

abbrev pub algorithm_of : SymDef → ℕ
algorithm_of Null = alg_null
algorithm_of (Aes bits) = alg_aes
algorithm_of (Xor alg) = alg_xor

-- TPMI_ALG_SYM_MODE (9.31): CFB alone
unfoldable pub mode : Layout ℕ
mode = number_in 2 (λ n. n == alg_cfb) rc_mode

-- the bits of an AES key, and otherwise any
abbrev pub bits_of : SymDef → KeyBits
bits_of (Aes bits) = bits
bits_of _ = Bits128

-- the hash of XOR, and otherwise any
abbrev pub hash_of : SymDef → Alg
hash_of (Xor alg) = alg
hash_of _ = Sha256

-- TPMT_SYM_DEF (11.1.6)
unfoldable pub sym_def : Layout SymDef
sym_def =
    field algorithm_of algorithm (λ n.
    either (n == alg_null) (done Null) (
    either (n == alg_aes)
    (field bits_of key_bits (λ bits. field (λ _. alg_cfb) mode (λ _. done (Aes bits))))
    (field hash_of hash (λ alg. done (Xor alg)))))
