-- What has come of a frame, and what a push does to it.
use Rattle.std.proofs.Common.{◌≡◌, ℕ, ◌+◌, ◌-◌, ◌≤◌, ◌<◌, ◌⊎◌, inl, inr, min, List, [], ◌++◌, refl, length, take, drop}
use Rattle.std.proofs.Common.{sym, ap, ◌∙◌, append_assoc, arith, length-append, length-drop, length-take-le}
use Rattle.std.proofs.Common.{take-append-drop, append-nil}
use Rattle.std.proofs.lemmas.List.{take-append-le, drop-append-le, take-take}
use Rattle.std.proofs.lemmas.Bool.{cases_lt}
use Rattle.std.proofs.Math.Seq.{take-add}
use Rattle.tpm_wire.specs.Token.{number_of}
use Rattle.tpm_wire.specs.declared.refusal.Refusal.{Refusal}
use Rattle.tpm_stream.specs.declared.framer.FramerState.TheVariants.{More, Ready, Broken}
use Rattle.tpm_stream.specs.declared.framer.FramerState.{FramerState}
use Rattle.tpm_stream.specs.Frames.{stated, IsFrame, BeginsNoFrame, IsPart, IsHeld, Push, Pushes, bad_size}

-- what comes after the size doesn't change it
pub stated_more : (h more : List ℕ) → 6 ≤ length h → stated (h ++ more) ≡ stated h
stated_more h more some =
    ap number_of (ap (take 4) (drop-append-le 2 h more (omega (arith, some))) ∙ take-append-le 4 (drop 2 h) more (omega (arith, some, length-drop 2 h)))

-- the same of a front
pub stated_front : (n : ℕ) (h : List ℕ) → 6 ≤ n → n ≤ length h → stated (take n h) ≡ stated h
stated_front n h some le =
    sym (stated_more (take n h) (drop n h) (omega (arith, some, le, length-take-le n h le))) ∙ ap stated (take-append-drop n h)

pub short_part : (h : List ℕ) → length h < 6 → IsPart h
short_part h lt = record {
  no_frame = λ frame more is e. absurd (omega (arith, lt, is.least, ap length e, length-append frame more));
  not_broken = λ b. absurd (omega (arith, lt, b.has_size));
}

pub sized_part : (h : List ℕ) → 6 ≤ length h → 10 ≤ stated h → stated h ≤ 4096 → length h < stated h → IsPart h
sized_part h some least most lt = record {
  no_frame = λ frame more is e.
      absurd (omega (arith, lt, is.least, is.states_it, ap length e, length-append frame more, ap stated e, stated_more frame more (omega (arith, is.least))));
  not_broken = λ b. elim b.outside [ inl x ↦ absurd (omega (arith, x, least)) | inr x ↦ absurd (omega (arith, x, most)) ];
}

-- as many bytes as are stated are a frame
pub front_frame : (h : List ℕ) → 10 ≤ stated h → stated h ≤ 4096 → stated h ≤ length h → IsFrame (take (stated h) h)
front_frame h least most le =
    let n = length-take-le (stated h) h le in
    record {
      least = omega (arith, n, least);
      most = omega (arith, n, most);
      states_it = stated_front (stated h) h (omega (arith, least)) le ∙ sym n;
    }

-- what begins with no frame, but has a size, has fewer bytes
pub fewer : (h : List ℕ) → BeginsNoFrame h → 10 ≤ stated h → stated h ≤ 4096 → length h < stated h
fewer h none least most = elim (cases_lt (length h) (stated h)) [
  | inl lt ↦ lt
  | inr le ↦ absurd (none (take (stated h) h) (drop (stated h) h) (front_frame h least most le) (sym (take-append-drop (stated h) h)))
]

-- a framer with a size holds no more than that
held_fits : (h : List ℕ) → IsHeld h → 6 ≤ length h → 10 ≤ stated h → stated h ≤ 4096 → length h ≤ stated h
held_fits h held some least most = elim held [
  | inl part ↦ omega (arith, fewer h part.no_frame least most)
  | inr (inl frame) ↦ omega (arith, frame.states_it)
  | inr (inr broken) ↦ elim broken.0.outside [ inl x ↦ absurd (omega (arith, x, least)) | inr x ↦ absurd (omega (arith, x, most)) ]
]

-- some of the bytes that were taken
all_length : (old piece : List ℕ) (k : ℕ) → k ≤ length piece → length (old ++ take k piece) ≡ length old + k
all_length old piece k within = length-append old (take k piece) ∙ ap (λ n. length old + n) (length-take-le k piece within)

module _ (old piece : List ℕ) (k j : ℕ) (within : k ≤ length piece) (lt : j < k) where
  some_length : length (old ++ take j piece) ≡ length old + j
  some_length = all_length old piece j (omega (arith, within, lt))

  some_stated : 6 ≤ length old + j → stated (old ++ take j piece) ≡ stated (old ++ take k piece)
  some_stated some =
      let regroup : old ++ take k piece ≡ (old ++ take j piece) ++ drop j (take k piece) =
      ap (λ (r : List ℕ). old ++ r)
      (sym (take-append-drop j (take k piece))
      ∙ ap (λ (r : List ℕ). r ++ drop j (take k piece)) (take-take j k piece (omega (arith, lt))))
      ∙ sym (append_assoc old (take j piece) (drop j (take k piece))) in
      sym (ap stated regroup ∙ stated_more (old ++ take j piece) (drop j (take k piece)) (omega (arith, some, some_length)))

-- a call of `push`, by what it was and what came of it
abbrev pub push : (old piece new : List ℕ) (k : ℕ) (state : FramerState) → Push
push old piece new k state = record { old = old; piece = piece; new = new; taken = k; state = state }

-- too few for a size
pub pushes_short : (old piece new : List ℕ) (k : ℕ) → k ≡ min (6 - length old) (length piece)
    → new ≡ old ++ take k piece → length new < 6 → Pushes (push old piece new k More)
pushes_short old piece new k count held lt =
    let within : k ≤ length piece = omega (arith, count) in
    let n : length new ≡ length old + k = ap length held ∙ all_length old piece k within in
    record {
      within = within;
      held = held;
      answer = short_part new lt;
      fewest = λ j less. short_part (old ++ take j piece) (omega (arith, some_length old piece k j within less, n, lt, less));
      all = λ _. omega (arith, count, n, lt);
    }

-- a size, and it is bad
pub pushes_broken : (old piece new : List ℕ) (k : ℕ) (e : Refusal) → k ≡ min (6 - length old) (length piece) → new ≡ old ++ take k piece → 6 ≤ length new
    → (stated new < 10) ⊎ (4096 < stated new) → e ≡ bad_size → Pushes (push old piece new k (Broken e))
pushes_broken old piece new k e count held some outside is =
    let within : k ≤ length piece = omega (arith, count) in
    record {
      within = within;
      held = held;
      answer = (record { has_size = some; outside = outside }, is);
      fewest = λ j less. short_part (old ++ take j piece) (omega (arith, some_length old piece k j within less, count, less));
      all = λ h. cc;
    }

-- a size, and then no more bytes than it says
module _ (old piece mid new : List ℕ) (n m size : ℕ) (was : IsHeld old) (count : n ≡ min (6 - length old) (length piece)) (front : mid ≡ old ++ take n piece)
    (some : 6 ≤ length mid) (states : size ≡ stated mid) (least : 10 ≤ size) (most : size ≤ 4096)
    (rest : m ≡ min (size - length mid) (length (drop n piece))) (whole : new ≡ mid ++ take m (drop n piece)) where
  sized_within : n + m ≤ length piece
  sized_within = omega (arith, count, rest, length-drop n piece)

  sized_held : new ≡ old ++ take (n + m) piece
  sized_held =
      whole ∙ ap (λ (r : List ℕ). r ++ take m (drop n piece)) front ∙ append_assoc old (take n piece) (take m (drop n piece))
      ∙ ap (λ (r : List ℕ). old ++ r) (sym (take-add n m piece))

  sized_states : stated new ≡ size
  sized_states = ap stated whole ∙ stated_more mid (take m (drop n piece)) some ∙ sym states

  sized_count : length new ≡ length old + (n + m)
  sized_count = ap length sized_held ∙ all_length old piece (n + m) sized_within

  mid_count : length mid ≡ length old + n
  mid_count = ap length front ∙ all_length old piece n (omega (arith, count))

  sized_fits : length new ≤ size
  sized_fits = elim (cases_lt (length old) 6) [
    | inl lt ↦ omega (arith, sized_count, mid_count, count, rest, least, lt)
    | inr le ↦ let none : n ≡ 0 = omega (arith, count, le) in
        let same : mid ≡ old = front ∙ ap (λ k. old ++ take k piece) none ∙ append-nil old in
        let stays : stated old ≡ size = ap stated (sym same) ∙ sym states in
        omega (arith, sized_count, mid_count, rest, none, held_fits old was le (omega (arith, stays, least)) (omega (arith, stays, most)), stays)
  ]

  sized_fewest : (j : ℕ) → j < n + m → IsPart (old ++ take j piece)
  sized_fewest j less = elim (cases_lt (length old + j) 6) [
    | inl lt ↦ short_part (old ++ take j piece) (omega (arith, some_length old piece (n + m) j sized_within less, lt))
    | inr le ↦
        let same : stated (old ++ take j piece) ≡ size =
        some_stated old piece (n + m) j sized_within less le ∙ ap stated (sym sized_held) ∙ sized_states in
        let k = some_length old piece (n + m) j sized_within less in
        sized_part (old ++ take j piece) (omega (arith, k, le)) (omega (arith, same, least)) (omega (arith, same, most))
        (omega (arith, same, k, sized_fits, sized_count, less))
  ]

  pub pushes_part : length new < size → Pushes (push old piece new (n + m) More)
  pushes_part lt = record {
    within = sized_within;
    held = sized_held;
    answer =
        sized_part new (omega (arith, sized_count, mid_count, some)) (omega (arith, sized_states, least))
        (omega (arith, sized_states, most)) (omega (arith, sized_states, lt));
    fewest = sized_fewest;
    all = λ _. omega (arith, rest, count, length-drop n piece, sized_count, mid_count, lt);
  }

  pub pushes_ready : size ≤ length new → Pushes (push old piece new (n + m) Ready)
  pushes_ready le = record {
    within = sized_within;
    held = sized_held;
    answer = record { least = omega (arith, le, least); most = omega (arith, sized_fits, most); states_it = omega (arith, sized_states, sized_fits, le) };
    fewest = sized_fewest;
    all = λ h. cc;
  }

-- a piece that begins a frame of this size, behind nothing
module _ (piece new : List ℕ) (k size : ℕ) (some : 6 ≤ length piece) (states : size ≡ stated piece) (least : 10 ≤ size) (most : size ≤ 4096)
    (count : k ≡ min size (length piece)) (whole : new ≡ take k piece) where
  first_mid : size ≡ stated (take 6 piece)
  first_mid = states ∙ sym (stated_front 6 piece (omega arith) some)

  first_six : 6 ≤ length (take 6 piece)
  first_six = omega (arith, length-take-le 6 piece some)

  first_rest : k - 6 ≡ min (size - length (take 6 piece)) (length (drop 6 piece))
  first_rest = omega (arith, count, length-take-le 6 piece some, length-drop 6 piece, some, least)

  first_sum : k ≡ 6 + (k - 6)
  first_sum = omega (arith, count, some, least)

  first_whole : new ≡ take 6 piece ++ take (k - 6) (drop 6 piece)
  first_whole = whole ∙ ap (λ n. take n piece) first_sum ∙ take-add 6 (k - 6) piece

  first_length : length new ≡ k
  first_length = ap length whole ∙ length-take-le k piece (omega (arith, count))

  pub begins_part : k < size → Pushes (push [] piece new k More)
  begins_part lt = rw first_sum
      (pushes_part [] piece (take 6 piece) new 6 (k - 6) size (inl (short_part [] (omega arith))) (omega (arith, some))
      refl first_six first_mid least most first_rest first_whole (omega (arith, first_length, lt)))

  pub begins_ready : size ≤ k → Pushes (push [] piece new k Ready)
  begins_ready le = rw first_sum
      (pushes_ready [] piece (take 6 piece) new 6 (k - 6) size (inl (short_part [] (omega arith)))
      (omega (arith, some)) refl first_six first_mid least most first_rest first_whole
      (omega (arith, first_length, le)))
