-- What C is told of the signature of a quote (Part 2, 11.3).
use Rattle.std.specs.Prelude.{◌≡◌, ◌⊎◌, ℕ, ◌+◌, List, length}
use Rattle.tpm_wire.specs.Path.{Spells, Fault}
use Rattle.tpm_types.specs.Alg.{alg_number}
use Rattle.tpm_quote.specs.declared.signature.RsaSignature.{RsaSignature}
use Rattle.tpm_quote.specs.declared.signature.EccSignature.{EccSignature}
use Rattle.tpm_quote.specs.declared.signature.Signature.{Signature}
use Rattle.tpm_quote.specs.declared.signature.Signature.TheVariants.{RsaSsa, RsaPss, Ecdsa}
use Rattle.tpm_quote.specs.Signatures.{alg_rsassa, alg_rsapss, alg_ecdsa, signature}
use Rattle.tpm_c.specs.declared.signature.TpmSignature.{TpmSignature}
use Rattle.tpm_c.specs.Calls.{Call}
use Rattle.tpm_c.specs.Parts.{part, bytes_in, refusal_of, Viewed}

-- the scheme and the hash have 4 bytes, and the size of each part 2
abbrev pub rsa_view : (scheme : ℕ) → RsaSignature → TpmSignature
rsa_view scheme s = record {
  scheme = scheme;
  hash = alg_number s.hash;
  sig = part 6 (length s.sig);
  r = part 0 0;
  s = part 0 0;
}

abbrev pub ecc_view : EccSignature → TpmSignature
ecc_view s = record {
  scheme = alg_ecdsa;
  hash = alg_number s.hash;
  sig = part 0 0;
  r = part 6 (length s.r);
  s = part (6 + length s.r + 2) (length s.s);
}

abbrev pub signature_view : Signature → TpmSignature
signature_view (RsaSsa s) = rsa_view alg_rsassa s
signature_view (RsaPss s) = rsa_view alg_rsapss s
signature_view (Ecdsa s) = ecc_view s

-- What the view says lies in the bytes is there.
abbrev pub HoldsSignature : List ℕ → Signature → Type 0
HoldsSignature bytes (RsaSsa s) = bytes_in bytes (rsa_view alg_rsassa s).sig ≡ s.sig
HoldsSignature bytes (RsaPss s) = bytes_in bytes (rsa_view alg_rsapss s).sig ≡ s.sig
HoldsSignature bytes (Ecdsa s) = (bytes_in bytes (ecc_view s).r ≡ s.r) × (bytes_in bytes (ecc_view s).s ≡ s.s)

-- The answer is 0 with the view of the signature that the bytes spell, or 1 with their fault; the other place is as it
-- was.
abbrev pub ViewsSignature : List ℕ → Call (Viewed TpmSignature) → Type 0
ViewsSignature bytes call =
    ((call.answer ≡ 0)
    × (s : Signature) × Spells signature s bytes
    × (call.new.view ≡ signature_view s)
    × HoldsSignature bytes s
    × (call.new.refusal ≡ call.old.refusal))
    ⊎ ((call.answer ≡ 1)
    × Fault signature bytes (refusal_of call.new.refusal)
    × (call.new.view ≡ call.old.view))
