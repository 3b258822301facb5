use Rattle.std.proofs.Common.{◌≡◌, ℕ, List, ◌++◌, length, length-append, nat_lt, true, false, ap, ◌∙◌, take, arith}
use Rattle.std.proofs.lemmas.Bool.Decides.{nat_tests}
use Rattle.std.proofs.lemmas.List.{append-nil}
use Rattle.tpm_types.specs.Alg.{block_len}
use Rattle.tpm_types.specs.Limits.{block_bytes}
use Rattle.tpm_types.proofs.Algs.{digest_fits, block_most}
use Rattle.tpm_hmac.specs.Hashes.{digest}
use Rattle.tpm_hmac.specs.Hmac.{filled, block_key}
use Rattle.tpm_hmac.proofs.DigestLengths.{length-digest}
use Rattle.tpm_hmac.proofs.Filling.{fitted}
use Rattle.tpm_hmac.proofs.mac.key_block.Goals as goal

pub returns-then-front-back : goal.returns-then-front-back
unfolding block_key
returns-then-front-back c =
    let alg = c.args.alg in let key = c.args.front.now ++ c.args.back.now in
    let long : nat_lt (block_len alg) (length key) ≡ true =
    grind (arith, nat_tests, length-append c.args.front.now c.args.back.now, c.block_len.ensures.value, c.if-front-back.true) in
    let is : c.as_slice.result.now ≡ digest alg key = c.as_slice.ensures.value ∙ c.hash.ensures.value
    ∙ ap (λ (r : List ℕ). digest alg (c.args.front.now ++ r)) (append-nil c.args.back.now) in
    rw long (ap (take (block_len alg)) (c.fill.ensures ∙ ap (filled block_bytes) (append-nil c.as_slice.result.now ∙ is))
    ∙ fitted (block_len alg) block_bytes (digest alg key) (omega (arith, length-digest alg key, digest_fits alg)) (block_most alg))

pub returns-else-front-back : goal.returns-else-front-back
unfolding block_key
returns-else-front-back c =
    let alg = c.args.alg in let key = c.args.front.now ++ c.args.back.now in
    let short : nat_lt (block_len alg) (length key) ≡ false =
    grind (arith, nat_tests, length-append c.args.front.now c.args.back.now, c.block_len.ensures.value, c.if-front-back.false) in
    rw short (ap (take (block_len alg)) c.fill-else-front-back.ensures
    ∙ fitted (block_len alg) block_bytes key
    (omega (arith, length-append c.args.front.now c.args.back.now, c.block_len.ensures.value, c.if-front-back.false)) (block_most alg))
