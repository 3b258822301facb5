-- The signature of a quote (Part 2, 11.3).
use Rattle.std.specs.Prelude.{ℕ, [], ◌==◌, ◌||◌}
use Rattle.tpm_wire.specs.Buffers.{Layout, number_in}
use Rattle.tpm_wire.specs.Layout.Form.{field, done}
use Rattle.tpm_wire.specs.Layout.{either}
use Rattle.tpm_wire.specs.Structures.{sized_bytes}
use Rattle.tpm_types.specs.declared.alg.Alg.TheVariants.{Sha256}
use Rattle.tpm_types.specs.Alg.{hash}
use Rattle.tpm_quote.specs.declared.signature.RsaSignature.{RsaSignature}
use Rattle.tpm_quote.specs.declared.signature.EccSignature.{EccSignature}
use Rattle.tpm_quote.specs.declared.signature.Signature.{Signature}
use Rattle.tpm_quote.specs.declared.signature.Signature.TheVariants.{RsaSsa, RsaPss, Ecdsa}

-- TPM_RC_SCHEME (6.6.3)
abbrev pub rc_scheme : ℕ
rc_scheme = 0x092

-- TPM_ALG_ID (6.3)
abbrev pub alg_rsassa : ℕ
alg_rsassa = 0x0014

abbrev pub alg_rsapss : ℕ
alg_rsapss = 0x0016

abbrev pub alg_ecdsa : ℕ
alg_ecdsa = 0x0018

-- how many bytes a signature by an RSA key of 4,096 bits has (11.2.4.5), and a number of the curve P-521 (11.2.5.1)
abbrev pub rsa_bytes : ℕ
rsa_bytes = 512

abbrev pub ecc_bytes : ℕ
ecc_bytes = 66

-- TPMS_SIGNATURE_RSA (11.3.1)
unfoldable pub rsa_signature : Layout RsaSignature
rsa_signature =
    field (λ s. s.hash) hash (λ alg.
    field (λ s. s.sig) (sized_bytes rsa_bytes) (λ sig.
    done (record { hash = alg; sig = sig })))

-- TPMS_SIGNATURE_ECC (11.3.2)
unfoldable pub ecc_signature : Layout EccSignature
ecc_signature =
    field (λ s. s.hash) hash (λ alg.
    field (λ s. s.r) (sized_bytes ecc_bytes) (λ r.
    field (λ s. s.s) (sized_bytes ecc_bytes) (λ s.
    done (record { hash = alg; r = r; s = s }))))

-- TPMI_ALG_SIG_SCHEME (9.33): RSASSA, RSAPSS and ECDSA alone
unfoldable pub scheme : Layout ℕ
scheme = number_in 2 (λ n. n == alg_rsassa || n == alg_rsapss || n == alg_ecdsa) rc_scheme

abbrev pub scheme_of : Signature → ℕ
scheme_of (RsaSsa s) = alg_rsassa
scheme_of (RsaPss s) = alg_rsapss
scheme_of (Ecdsa s) = alg_ecdsa

-- that by an RSA key, and otherwise any
abbrev pub rsa_of : Signature → RsaSignature
rsa_of (RsaSsa s) = s
rsa_of (RsaPss s) = s
rsa_of (Ecdsa s) = record { hash = Sha256; sig = [] }

-- that by a key on a curve, and otherwise any
abbrev pub ecc_of : Signature → EccSignature
ecc_of (Ecdsa s) = s
ecc_of _ = record { hash = Sha256; r = []; s = [] }

-- TPMT_SIGNATURE (11.3.4)
unfoldable pub signature : Layout Signature
signature =
    field scheme_of scheme (λ n.
    either (n == alg_rsassa) (field rsa_of rsa_signature (λ s. done (RsaSsa s))) (
    either (n == alg_rsapss) (field rsa_of rsa_signature (λ s. done (RsaPss s)))
    (field ecc_of ecc_signature (λ s. done (Ecdsa s)))))
