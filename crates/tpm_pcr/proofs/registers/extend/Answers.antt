use Rattle.std.proofs.Common.{◌≡◌, ◌+◌, ◌-◌, List, ◌∷◌, [], ◌++◌, length, take, subst, sym, ap, ◌∙◌, ℕ, arith}
use Rattle.std.proofs.lemmas.List.{take_all, take_more}
use borrow.Rule.Slice.PartMut.{put_mid, same_len_mid}
use Rattle.tpm_types.specs.declared.alg.Alg.{Alg}
use Rattle.tpm_types.specs.Alg.{digest_len}
use Rattle.tpm_hmac.specs.Hashes.{digest}
use Rattle.tpm_hmac.proofs.DigestLengths.{length-digest}
use Rattle.tpm_pcr.specs.Banks.{value_at}
use Rattle.tpm_pcr.specs.Registers.Change.{Extend}
use Rattle.tpm_pcr.specs.inner.Banks.{all_bytes, Holds, changed, with_value}
use Rattle.tpm_pcr.proofs.Places.{written}
use Rattle.tpm_pcr.proofs.Values.{extend_more}
use Rattle.tpm_pcr.proofs.registers.extend.Goals as goal

pub loop-entry-preserved : goal.loop-entry-preserved
unfolding value_at
loop-entry-preserved c =
    let i = c.loop-entry.entry-index in let ds = c.args.digests.now in let items = c.as_slice-entry-items.result.now in let e = c.entry-item.result in
    let next : take (i + 1) ds ≡ take i ds ++ e ∷ [] =
    ap (take (i + 1)) (sym c.as_slice-entry-items.ensures.value) ∙ take_more items i e c.loop-entry-test.true
    ∙ ap (λ (x : Alg × List ℕ). take i items ++ x ∷ []) (sym c.entry-item.is)
    ∙ ap (λ (l : List (Alg × List ℕ)). take i l ++ e ∷ []) c.as_slice-entry-items.ensures.value in
    let at = c.offset-at.result in let alg = c.hash-alg.result in let bytes = c.loop-entry.bytes in
    let both = value_at bytes alg c.args.register ++ c.digest.result.now in
    let new = put_mid at (at + c.digest_len.result - at) bytes c.extend.new.value in
    let size : at + c.digest_len.result - at ≡ digest_len alg = omega (arith, c.digest_len.ensures.value) in
    let whole : length bytes ≡ all_bytes = omega (arith, c.loop-entry.invariant.long, c.requires.bytes) in
    let extended : Holds new (with_value alg c.args.register (digest alg both) (value_at bytes)) =
    rw (c.extend.ensures, size, c.offset-at.ensures.value)
    (written alg c.args.register bytes (digest alg both) whole c.requires.register (length-digest alg both)) in
    record {
      long = same_len_mid at (at + c.digest_len.result - at) bytes c.extend.new.value c.extend.auto.value ∙ c.loop-entry.invariant.long;
      holds = subst (λ (xs : List (Alg × List ℕ)). Holds new (changed (Extend c.args.register xs) c.args.bytes.now)) (sym next)
          (extend_more c.args.register c.args.bytes.now bytes new (take i ds) e
          c.loop-entry.invariant.holds (rw (c.hash-alg.ensures, c.digest.ensures.value) at extended));
    }

pub returns : goal.returns
returns c =
    let ds = c.args.digests.now in
    let all : take c.loop-entry.entry-index ds ≡ ds =
    take_all c.loop-entry.entry-index ds (omega (arith, c.loop-entry-test.false, ap length c.as_slice-entry-items.ensures.value)) in
    subst (λ (xs : List (Alg × List ℕ)). Holds c.loop-entry.bytes (changed (Extend c.args.register xs) c.args.bytes.now)) all c.loop-entry.invariant.holds
