-- What several reads of a source give.
use Rattle.std.proofs.Common.{◌≡◌, ℕ, ◌+◌, ◌-◌, ◌≤◌, ◌<◌, List, [], ◌++◌, length, take, drop, Option, Some, None, refl}
use Rattle.std.proofs.Common.{sym, subst, ap, ◌∙◌, append_assoc, arith, length-take, length-take-le, length-drop}
use Rattle.std.proofs.Common.{length-append}
use Rattle.std.proofs.lemmas.List.{take-append-le, take_at, take_all}
use Rattle.std.proofs.lemmas.Slice.{take-put_mid}
use Rattle.std.proofs.Math.Seq.{take-append-add}
use Rattle.std.specs.List.{refill}
use Rattle.std.specs.Io.KnownBytes.{Consumes, IsAtEnd}
use Rattle.tpm_wire.specs.Sources.{MeetsEnds}
use Rattle.tpm_stream.specs.Frames.{stated, IsFrame, IsPart}
use Rattle.tpm_stream.proofs.Framed.{stated_more, short_part, sized_part}
use borrow.Rule.Slice.PartMut.{put_mid, post_of}

-- the bytes of one read and then of others
pub consumes_both : (a b c : Option (List ℕ)) (xs ys : List ℕ) → Consumes a b xs → Consumes b c ys → Consumes a c (xs ++ ys)
consumes_both None b c xs ys f g = tt
consumes_both (Some l) None c xs ys f g = absurd f
consumes_both (Some l) (Some m) None xs ys f g = absurd g
consumes_both (Some l) (Some m) (Some n) xs ys f g = f ∙ ap (λ (r : List ℕ). xs ++ r) g ∙ sym (append_assoc xs ys n)

pub consumes_none : (a : Option (List ℕ)) → Consumes a a []
consumes_none None = tt
consumes_none (Some l) = refl

-- ---- how many reads met the end

pub meets_none : (a : Option ℕ) → MeetsEnds a a 0
meets_none None = tt
meets_none (Some n) = omega arith

pub meets_both : (a b c : Option ℕ) (m n : ℕ) → MeetsEnds a b m → MeetsEnds b c n → MeetsEnds a c (m + n)
meets_both None b c m n f g = tt
meets_both (Some i) None c m n f g = absurd f
meets_both (Some i) (Some j) None m n f g = absurd g
meets_both (Some i) (Some j) (Some k) m n f g = omega (arith, f, g)

-- ---- rooms

-- the front of a room after a read into the rest of it
pub front_read : (count k n : ℕ) (room part : List ℕ) → count ≤ length room → n ≤ length part
    → take (count + n) (put_mid count k room part) ≡ take count room ++ take n part
front_read count k n room part within le =
    let len = length-take-le count room within in
    ap (λ m. take (m + n) (put_mid count k room part)) (sym len) ∙ take-append-add (take count room) (part ++ post_of count k room) n
    ∙ ap (λ (r : List ℕ). take count room ++ r) (take-append-le n part (post_of count k room) le)

pub room_read : (count k n : ℕ) (room part : List ℕ) → count ≤ length room → n ≤ length part → count + n ≤ length (put_mid count k room part)
room_read count k n room part within le =
    omega (
      arith,
      length-append (take count room) (part ++ post_of count k room),
      length-append part (post_of count k room),
      length-take-le count room within,
      le,
    )

-- ---- a frame in two reads: its first six bytes, and the rest

module _ (front part : List ℕ) (size : ℕ) (six : length front ≡ 6) (states : size ≡ stated front) (least : 10 ≤ size) (most : size ≤ 4096) where
  both : (n : ℕ) → n ≤ length part → length (front ++ take n part) ≡ 6 + n
  both n le = length-append front (take n part) ∙ ap (λ m. m + length (take n part)) six ∙ ap (λ m. 6 + m) (length-take-le n part le)

  says : (n : ℕ) → stated (front ++ take n part) ≡ size
  says n = stated_more front (take n part) (omega (arith, six)) ∙ sym states

  -- less than the rest
  pub read_part : (n : ℕ) → n ≤ length part → 6 + n < size → IsPart (front ++ take n part)
  read_part n le lt =
      sized_part (front ++ take n part) (omega (arith, both n le)) (omega (arith, says n, least))
      (omega (arith, says n, most)) (omega (arith, both n le, says n, lt))

  -- all of the rest
  pub read_whole : (n : ℕ) → n ≤ length part → 6 + n ≡ size → IsFrame (front ++ take n part)
  read_whole n le is = record {
    least = omega (arith, both n le, is, least);
    most = omega (arith, both n le, is, most);
    states_it = omega (arith, both n le, says n, is);
  }

-- where the rest stands in the buffer, which was made as long as the frame
pub part_length : (held part : List ℕ) (size : ℕ) → length part ≡ length (take (size - 6) (drop 6 held))
    → length held ≡ size → 10 ≤ size → 6 + length part ≡ size
part_length held part size is whole least = omega (arith, is, length-take (size - 6) (drop 6 held), length-drop 6 held, whole, least)

-- a first read of six bytes, and the next one of the rest into that buffer
module _ (old mid new : Option (List ℕ)) (front part held : List ℕ) (count size : ℕ) (six : length front ≡ 6)
    (first : Consumes old mid (take count front)) (filled : 6 ≤ count)
    (says : size ≡ stated front) (least : 10 ≤ size) (most : size ≤ 4096)
    (room : length part ≡ length (take (size - 6) (drop 6 held))) (long : length held ≡ size) where
  rest : 6 + length part ≡ size
  rest = part_length held part size room long least

  all_first : Consumes old mid front
  all_first = rw (← take_all count front (omega (arith, six, filled))) first

  pub failed_inside : (n : ℕ) → n < length part → Consumes mid new (take n part) → (bytes : List ℕ) × Consumes old new bytes × IsPart bytes
  failed_inside n lt more = (
    front ++ take n part,
    consumes_both old mid new front (take n part) all_first more,
    read_part front part size six says least most n (omega (arith, lt)) (omega (arith, lt, rest)),
  )

  pub ended_inside : (n : ℕ) → n ≤ length part → Consumes mid new (take n part) → (n < length part → IsAtEnd new) → 6 + n < size
      → (bytes : List ℕ) × Consumes old new bytes × (IsPart bytes × (0 < length bytes) × IsAtEnd new)
  ended_inside n le more end lt = (
    front ++ take n part,
    consumes_both old mid new front (take n part) all_first more,
    (read_part front part size six says least most n le lt, omega (arith, length-append front (take n part), six), end (omega (arith, lt, rest))),
  )

  pub whole_frame : (n : ℕ) → n ≤ length part → Consumes mid new (take n part) → size ≤ 6 + n → Consumes old new (front ++ part) × IsFrame (front ++ part)
  whole_frame n le more all =
      let whole : front ++ take n part ≡ front ++ part = ap (λ (r : List ℕ). front ++ r) (take_all n part (omega (arith, rest, all))) in
      subst (λ (bs : List ℕ). Consumes old new bs × IsFrame bs) whole
      (consumes_both old mid new front (take n part) all_first more, read_whole front part size six says least most n le (omega (arith, rest, le, all)))

pub whole_buffer : (xs held part front more : List ℕ) (n size : ℕ) → n ≡ size → held ≡ front ++ more
    → length held ≡ size → length front ≡ 6 → 6 + length part ≡ size
    → refill n xs (put_mid 6 (size - 6) held part) ≡ front ++ part
whole_buffer xs held part front more n size is begins whole six rest =
    let written = put_mid 6 (size - 6) held part in
    let long = room_read 6 (size - 6) (length part) held part (omega (arith, whole, rest)) (omega arith) in
    take-append-le n written (drop (length written) xs) (omega (arith, long, is, rest))
    ∙ take-put_mid 6 (size - 6) held part n (omega (arith, is, rest)) (omega (arith, whole, rest))
    ∙ ap (λ (r : List ℕ). take 6 r ++ part) begins
    ∙ ap (λ (r : List ℕ). r ++ part) (take_at front more 6 six)

-- a first read that was the last
pub short_read : (old new : Option (List ℕ)) (front : List ℕ) (count : ℕ) → length front ≡ 6 → count ≤ length front
    → 0 < count → count < 6 → Consumes old new (take count front) → (count < length front → IsAtEnd new)
    → (bytes : List ℕ) × Consumes old new bytes × (IsPart bytes × (0 < length bytes) × IsAtEnd new)
short_read old new front count six fits some few read end =
    let len = length-take-le count front fits in
    (take count front, read, (short_part (take count front) (omega (arith, len, few)), omega (arith, len, some), end (omega (arith, six, few))))

-- a buffer of this length that is begun with six bytes
pub headed : (xs held written head : List ℕ) (n size : ℕ) → written ≡ head ++ drop 6 held → length head ≡ 6 → length held ≡ size → 10 ≤ size → n ≡ size
    → (more : List ℕ) × (refill n xs written ≡ head ++ more) × (length (refill n xs written) ≡ size)
headed xs held written head n size is six long least count =
    let fits : length written ≡ size = omega (arith, length-append head (drop 6 held), length-drop 6 held, ap length is, six, long, least) in
    let whole : refill n xs written ≡ written =
    take-append-le n written (drop (length written) xs) (omega (arith, fits, count))
    ∙ take_all n written (omega (arith, fits, count)) in
    (drop 6 held, whole ∙ is, ap length whole ∙ fits)
