-- A key of HMACs, and what is precomputed of it (RFC 2104, section 4).
use Rattle.std.specs.Prelude.{◌≡◌, ⊤, ℕ, List}
use Rattle.tpm_types.specs.declared.alg.Alg.TheVariants.{Sha1, Sha256}
use Rattle.tpm_types.specs.declared.alg.Alg.{Alg}
use Rattle.tpm_hmac.specs.declared.key.Precomputed.{Precomputed}
use Rattle.tpm_hmac.specs.Hmac.{block_key, xored}
use Rattle.tpm_hmac.specs.declared.key.Precomputed.TheVariants as the
use Rattle.sha1.specs.Sha1 as S1
use Rattle.sha2.specs.Hashers.{Holds256}

-- the key, for HMACs by this hash
pub record Key : Type 0 where
  pub hash : Alg
  pub bytes : List ℕ

-- The hashers have taken in the key's block, changed for the inner and for the outer hash.
abbrev pub IsPrecomputed : Alg → List ℕ → Precomputed → Type 0
IsPrecomputed alg key the.Nothing = ⊤
IsPrecomputed alg key (the.Sha1 inner outer) =
    (alg ≡ Sha1) ×
    S1.Holds inner (xored 0x36 (block_key alg key)) ×
    S1.Holds outer (xored 0x5C (block_key alg key))
IsPrecomputed alg key (the.Sha256 inner outer) =
    (alg ≡ Sha256) ×
    Holds256 inner (xored 0x36 (block_key alg key)) ×
    Holds256 outer (xored 0x5C (block_key alg key))
