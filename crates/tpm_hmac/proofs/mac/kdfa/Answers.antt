use Rattle.std.proofs.Common.{◌≡◌, ◌-◌, ◌*◌, length, take, min, ap, ◌∙◌, arith, length-take-le}
use Rattle.tpm_types.specs.Alg.{digest_len}
use Rattle.tpm_types.proofs.Algs.{digest_some}
use Rattle.tpm_hmac.specs.Hmac.{kdfa_text}
use Rattle.tpm_hmac.proofs.KdfaBlocks.{next_end, written_more, kdfa-whole}
use Rattle.tpm_hmac.proofs.mac.kdfa.Goals as goal

pub loop-done-preserved : goal.loop-done-preserved
loop-done-preserved c =
    let before = c.loop-done.invariant in
    let alg = c.args.alg in let k = c.loop-done.counter in let n = length c.args.out.now in
    let text = kdfa_text c.args.label.now c.args.context_u.now c.args.context_v.now (8 * n) in
    let next = next_end alg k in
    let place : c.loop-done.done ≡ k * digest_len alg = omega (arith, before.place, before.long, c.loop-done-test.true) in
    let len : c.min-len.result ≡ min (digest_len alg) (n - c.loop-done.done) = omega (arith, before.long, c.min-len.ensures, c.digest_len.ensures.value) in
    let longest : length c.as_slice.result.now ≡ digest_len alg = ap length c.as_slice.ensures.value ∙ c.kdfa_block-block.ensures.len in
    let long : length (take c.min-len.result c.as_slice.result.now) ≡ c.min-len.result = length-take-le c.min-len.result c.as_slice.result.now (omega arith) in
    record {
      long = omega (arith, c.put.auto.out, before.long);
      place = omega (arith, place, len, next);
      last = omega (arith, place, next, before.long, c.loop-done-test.true);
      counted = omega (arith, len, digest_some alg, before.counted, before.long, c.loop-done-test.true);
      written = written_more alg c.args.key.now text k c.loop-done.done c.min-len.result c.loop-done.out c.put.new.out c.kdfa_block-block.result
          (take c.min-len.result c.as_slice.result.now)
          place long before.written c.kdfa_block-block.ensures.value (ap (take c.min-len.result) c.as_slice.ensures.value) c.put.ensures;
    }

pub returns : goal.returns
returns c =
    let before = c.loop-done.invariant in let n = length c.args.out.now in
    let all : c.loop-done.done ≡ n = omega (arith, before.place, before.long, c.loop-done-test.false) in
    kdfa-whole c.args.alg c.args.key.now c.args.label.now c.args.context_u.now c.args.context_v.now c.loop-done.counter n c.loop-done.out before.long
    (omega (arith, before.place, all)) before.last (rw all at before.written)
