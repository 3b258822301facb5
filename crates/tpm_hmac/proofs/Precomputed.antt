-- What is precomputed of a key makes its HMACs.
use Rattle.std.proofs.Common.{◌≡◌, ℕ, List, ◌++◌, refl, ◌∙◌}
use Rattle.std.proofs.lemmas.List.{take-map}
use Rattle.tpm_types.specs.declared.alg.Alg.TheVariants.{Sha1, Sha256}
use Rattle.tpm_types.specs.declared.alg.Alg.{Alg}
use Rattle.tpm_hmac.specs.Hashes.{digest}
use Rattle.tpm_hmac.specs.Hmac.{hmac, block_key, xored}
use Rattle.sha1.specs.Sha1.{sha1}
use Rattle.sha2.specs.Sha256.{sha256}

-- the front of a block that a pad has changed
pub ruleset changed = (take-map)

pub by_sha1 : (alg : Alg) (key text out : List ℕ) → alg ≡ Sha1 →
    out ≡ sha1 (xored 0x5C (block_key alg key) ++ sha1 (xored 0x36 (block_key alg key) ++ text)) → out ≡ hmac alg key text
unfolding hmac digest
by_sha1 alg key text out is made = made ∙ rw is refl

pub by_sha256 : (alg : Alg) (key text out : List ℕ) → alg ≡ Sha256 →
    out ≡ sha256 (xored 0x5C (block_key alg key) ++ sha256 (xored 0x36 (block_key alg key) ++ text)) → out ≡ hmac alg key text
unfolding hmac digest
by_sha256 alg key text out is made = made ∙ rw is refl
