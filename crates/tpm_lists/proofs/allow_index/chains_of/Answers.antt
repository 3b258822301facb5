use Rattle.std.proofs.Common.{◌≡◌, ◌+◌, ℕ, ap, arith, length, length-append, refl, rules, subst, ◌∙◌}
use Rattle.std.proofs.lemmas.List.{get_or_read}
use Rattle.tpm_lists.specs.inner.AllowIndex.{AreChains, bucket, bucket_of}
use Rattle.tpm_lists.proofs.AllowFinding.{chains_next, chains_start}
use Rattle.tpm_lists.proofs.allow_index.chains_of.Goals as goal

pub loop-allowed-init : goal.loop-allowed-init
loop-allowed-init c =
    chains_start c.args.digests.now _ _ 16384 refl (c.in_ok-last.ensures.items_if_clones_equal (λ y same. same)) (search rules)

pub loop-allowed-preserved : goal.loop-allowed-preserved
loop-allowed-preserved c =
    let l = c.loop-allowed in
    let a = c.allowed-item.result in
    let is : c.bucket-bucket.result ≡ bucket_of a = c.bucket-bucket.ensures.value ∙ ap bucket c.digest.ensures.value in
    let b = c.bucket-bucket.result in
    let pushed = c.in_ok-push.ensures.items in
    let place : c.len.result ≡ l.allowed-index + 1 = omega (arith, l.invariant.long, simp length-append at (ap length pushed)) in
    rw pushed
    (chains_next c.args.digests.now l.allowed-index a c.allowed-item.is c.loop-allowed-test.true l.last.items l.before.items b _ c.len.result is
    c.bucket-bucket.ensures.below
    (get_or_read l.last.items b _ (omega (arith, l.invariant.buckets, c.bucket-bucket.ensures.below)) c.index.ensures 0) place l.invariant)

pub returns : goal.returns
returns c =
    let l = c.loop-allowed in
    let digests = c.args.digests.now in
    let all : l.allowed-index ≡ length digests = omega arith in
    subst (λ (n : ℕ). AreChains digests n l.last.items l.before.items) all l.invariant
