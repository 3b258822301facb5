-- What a hasher and an HMAC hold of a message that comes piece by piece.
use Rattle.std.specs.Prelude.{◌≡◌, ℕ, List, ◌++◌}
use Rattle.tpm_types.specs.declared.alg.Alg.TheVariants.{Sha1, Sha256, Sha384}
use Rattle.tpm_types.specs.declared.alg.Alg.{Alg}
use Rattle.tpm_hmac.specs.declared.hashing.Hasher.{Hasher}
use Rattle.tpm_hmac.specs.declared.mac.Mac.{Mac}
use Rattle.tpm_hmac.specs.Hmac.{block_key, xored}
use Rattle.tpm_hmac.specs.declared.hashing.Hasher.TheVariants as the
use Rattle.sha1.specs.Sha1 as S1
use Rattle.sha2.specs.Hashers.{Holds256, Holds384}

-- the hasher is of this hash and holds this message
abbrev pub Holding : Alg → Hasher → List ℕ → Type 0
Holding alg (the.Sha1 h) m = (alg ≡ Sha1) × S1.Holds h m
Holding alg (the.Sha256 h) m = (alg ≡ Sha256) × Holds256 h m
Holding alg (the.Sha384 h) m = (alg ≡ Sha384) × Holds384 h m

-- the HMAC is of this hash and key and holds this text
abbrev pub MacHolds : Alg → List ℕ → Mac → List ℕ → Type 0
MacHolds alg key m text =
    Holding alg m.inner (xored 0x36 (block_key alg key) ++ text) ×
    Holding alg m.outer (xored 0x5C (block_key alg key))
