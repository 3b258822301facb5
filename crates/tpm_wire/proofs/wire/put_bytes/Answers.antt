use Rattle.std.proofs.Common.{◌≡◌, ◌≤◌, ◌+◌, ◌++◌, ◌∷◌, [], ℕ, List, length, append_assoc, length-append, sym, ap, arith, drop, get_or}
use Rattle.std.proofs.lemmas.List.{drop_more, take-append-drop}
use Rattle.tpm_wire.proofs.wire.put_bytes.Goals as goal

-- A part of what is left was put.
one_more : (before now part left behind all : List ℕ) (size : ℕ) → now ≡ before ++ part → left ≡ part ++ behind → before ++ left ≡ all
    → length before + length left ≤ size → (now ++ behind ≡ all) × (length now + length behind ≤ size)
one_more before now part left behind all size put cut so_far room = (
  rw (put, append_assoc, ← cut) so_far,
  omega (arith, room, ap length put, length-append before part, ap length cut, length-append part behind),
)

pub loop-byte-preserved : goal.loop-byte-preserved
loop-byte-preserved g c =
    let rest = c.loop-piece.rest.now in
    let i = c.loop-byte.byte-index in
    let more = one_more (g.R.Room.written c.loop-byte.out) (g.R.Room.written c.push.new.self) (get_or rest i 0 ∷ []) (drop i rest) (drop (i + 1) rest)
    (g.R.Room.written c.args.out.now ++ c.args.bytes.now) g.R.Room.size c.push.ensures (drop_more rest i 0 c.loop-byte-test.true)
    c.loop-byte.invariant.bytes c.loop-byte.invariant.room in
    record { bytes = more.0; room = more.1 }

pub loop-piece-preserved : goal.loop-piece-preserved
loop-piece-preserved g c =
    let rest = c.loop-piece.rest.now in
    let piece = c.in-Some.piece.now in
    let behind = c.in-Some.behind.now in
    let cut : rest ≡ piece ++ behind = rw (c.in-Some.ensures.cases.0, c.in-Some.ensures.cases.1) (sym (take-append-drop 8 rest)) in
    let more = one_more (g.R.Room.written c.loop-piece.out) (g.R.Room.written c.put_array.new.out) piece rest behind
    (g.R.Room.written c.args.out.now ++ c.args.bytes.now) g.R.Room.size c.put_array.ensures cut c.loop-piece.invariant.bytes
    c.loop-piece.invariant.room in
    record { bytes = more.0; room = more.1 }
