-- A key that is longer than a block may be hashed first.
use Rattle.std.proofs.Common.{◌≡◌, ℕ, ◌≤◌, Bool, true, false, List, length, refl, arith}
use Rattle.std.proofs.lemmas.Bool.Decides.{nat_tests}
use Rattle.std.specs.Prelude.{nat_lt, if◌then◌else◌}
use Rattle.tpm_types.specs.declared.alg.Alg.{Alg}
use Rattle.tpm_types.specs.Alg.{block_len}
use Rattle.tpm_types.proofs.Algs.{digest_fits}
use Rattle.tpm_hmac.specs.Hashes.{digest}
use Rattle.tpm_hmac.specs.Hmac.{filled, block_key, hmac}
use Rattle.tpm_hmac.proofs.DigestLengths.{length-digest}
use Rattle.tpm_caller.specs.Sent.{hmac_key}

not_longer : (a : Alg) (key : List ℕ) → nat_lt (block_len a) (length (digest a key)) ≡ false
not_longer a key = let fits : length (digest a key) ≤ block_len a = omega (arith, length-digest a key, digest_fits a) in grind (arith, nat_tests)

one_block : (a : Alg) (key : List ℕ) → block_key a (hmac_key a key) ≡ block_key a key
unfolding block_key
one_block a key = go (nat_lt (block_len a) (length key)) refl
  where
    go : (b : Bool) → nat_lt (block_len a) (length key) ≡ b
        → filled (block_len a)
        (let k = (if b then digest a key else key) in if nat_lt (block_len a) (length k) then digest a k else k)
        ≡ filled (block_len a) (if b then digest a key else key)
    go true t = rw (not_longer a key) refl
    go false t = rw t refl

pub one_hmac : (a : Alg) (key text : List ℕ) → hmac a (hmac_key a key) text ≡ hmac a key text
unfolding hmac
one_hmac a key text = rw (one_block a key) refl
