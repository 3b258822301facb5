use Rattle.std.proofs.Common.{◌≡◌, ◌+◌, ◌<◌, ◌∷◌, length, drop, get_or, append_assoc, drop-cons, add-one, arith}
use Rattle.tpm_pcap.proofs.way.Way.take_all.Goals as goal

pub loop-byte-preserved : goal.loop-byte-preserved
loop-byte-preserved c =
    let i = c.loop-byte.byte-index in
    let bytes = c.args.bytes.now in
    let within : i < length bytes = omega arith in
    let split : drop i bytes ≡ get_or bytes i 0 ∷ drop (i + 1) bytes = rw (add-one i) (drop-cons bytes i 0 within) in
    record {
      way = rw c.in_ok-take.ensures.0 (rw split at c.loop-byte.invariant.way);
      told = rw (c.in_ok-take.ensures.1, c.in_ok-take.ensures.0, append_assoc) (rw split at c.loop-byte.invariant.told);
    }
