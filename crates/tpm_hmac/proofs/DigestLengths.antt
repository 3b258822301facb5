-- The lengths of digests and MACs.
use Rattle.std.proofs.Common.{◌≡◌, ℕ, zero, suc, ◌*◌, length, slice_index, arith, length-append, length-take-le, List}
use Rattle.std.proofs.Common.{refl, ◌∙◌}
use Rattle.std.specs.Int.{w32, w64, to_be_bytes}
use Rattle.sha1.specs.Sha1 as S1
use Rattle.sha2.specs.Sha256 as S2
use Rattle.sha2.specs.Sha512 as S3
use Rattle.tpm_types.specs.declared.alg.Alg.{Alg}
use Rattle.tpm_types.specs.Alg.{digest_len}
use Rattle.tpm_hmac.specs.Hashes.{digest}
use Rattle.tpm_hmac.specs.Hmac.{hmac}

length-sha1_bytes : (h : List ℕ) (n : ℕ) → length (S1.digest_bytes h n) ≡ 4 * n
unfolding S1.digest_bytes
length-sha1_bytes h zero = refl
length-sha1_bytes h (suc n) = length-append (S1.digest_bytes h n) (to_be_bytes w32 (slice_index h n)) ∙ rw (length-sha1_bytes h n) (omega arith)

length-sha256_bytes : (h : List ℕ) (n : ℕ) → length (S2.digest_bytes h n) ≡ 4 * n
unfolding S2.digest_bytes
length-sha256_bytes h zero = refl
length-sha256_bytes h (suc n) = length-append (S2.digest_bytes h n) (to_be_bytes w32 (slice_index h n)) ∙ rw (length-sha256_bytes h n) (omega arith)

length-sha512_bytes : (h : List ℕ) (n : ℕ) → length (S3.digest_bytes h n) ≡ 8 * n
unfolding S3.digest_bytes
length-sha512_bytes h zero = refl
length-sha512_bytes h (suc n) = length-append (S3.digest_bytes h n) (to_be_bytes w64 (slice_index h n)) ∙ rw (length-sha512_bytes h n) (omega arith)

pub length-sha1 : (m : List ℕ) → length (S1.sha1 m) ≡ 20
unfolding S1.sha1
length-sha1 m = length-sha1_bytes _ 5

pub length-sha256 : (m : List ℕ) → length (S2.sha256 m) ≡ 32
unfolding S2.sha256
length-sha256 m = length-sha256_bytes _ 8

pub length-sha384 : (m : List ℕ) → length (S3.sha384 m) ≡ 48
unfolding S3.sha384
length-sha384 m = length-take-le 48 _ (omega (arith, length-sha512_bytes (S3.final_hash S3.initial_hash_384 m) 8))

pub ruleset hashes = (length-sha1, length-sha256, length-sha384)

pub length-digest : (a : Alg) (m : List ℕ) → length (digest a m) ≡ digest_len a
unfolding digest
length-digest a m = grind (arith, hashes)

pub length-hmac : (a : Alg) (key text : List ℕ) → length (hmac a key text) ≡ digest_len a
unfolding hmac
length-hmac a key text = length-digest a _

pub ruleset lengths = (length-digest, length-hmac)
