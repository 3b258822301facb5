-- The hashes by name (FIPS 180-4, over the definitions of the crates sha1 and sha2).
use Rattle.std.specs.Prelude.{ℕ, List}
use Rattle.tpm_types.specs.declared.alg.Alg.TheVariants.{Sha1, Sha256, Sha384}
use Rattle.tpm_types.specs.declared.alg.Alg.{Alg}
use Rattle.sha1.specs.Sha1.{sha1}
use Rattle.sha2.specs.Sha256.{sha256}
use Rattle.sha2.specs.Sha512.{sha384}

-- the digest of a message
unfoldable pub digest : Alg → List ℕ → List ℕ
digest Sha1 m = sha1 m
digest Sha256 m = sha256 m
digest Sha384 m = sha384 m
