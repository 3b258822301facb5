use Rattle.std.proofs.Common.{◌<◌, ℕ, length, bit_xor, slice_index_or, arith, ap}
use Rattle.std.proofs.lemmas.List.Edits.{map_over_more}
use Rattle.std.proofs.lemmas.List.{get_or_default, length-append, length-map, length-take, length-drop}
use Rattle.tpm_hmac.proofs.mac.xored.Goals as goal

pub loop-byte-preserved : goal.loop-byte-preserved
loop-byte-preserved c =
    let f = λ (b : ℕ). bit_xor b c.args.with in
    let h : c.loop-byte.byte-index < length c.args.block.now = omega arith in
    let e = simp (length-append, length-map, length-take, length-drop) at (ap length c.loop-byte.invariant) in
    let k : c.loop-byte.byte-index < length c.loop-byte.byte-items = omega (arith, e) in
    map_over_more f c.args.block.now c.loop-byte.byte-items c.loop-byte.byte-index
    (slice_index_or c.loop-byte.byte-items c.loop-byte.byte-index 0) h c.loop-byte.invariant
    (get_or_default c.loop-byte.byte-items c.loop-byte.byte-index 0 (slice_index_or c.loop-byte.byte-items c.loop-byte.byte-index 0) k)
