-- Frames of a stream, and what a framer and a reader give of it.
use Rattle.std.proofs.Common.{◌≡◌, ◌≢◌, ℕ, zero, suc, ◌+◌, ◌-◌, ◌≤◌, ◌<◌, ◌⊎◌, inl, inr, min, List, [], ◌∷◌, ◌++◌}
use Rattle.std.proofs.Common.{length, take, drop, Option, Some, None, Result, Ok, Err, refl, sym, ap, subst, ◌∙◌}
use Rattle.std.proofs.Common.{append_assoc, arith, length-append, length-drop, take-append-drop, append-nil}
use Rattle.std.proofs.lemmas.List.Elements.{All-nil, All-cons, All-head, All-tail, All-append}
use Rattle.std.proofs.lemmas.List.Folds.{concat-append}
use Rattle.std.proofs.lemmas.List.{take_at, drop_at, nil_from_length}
use Rattle.std.proofs.lemmas.Bool.{cases_lt}
use Rattle.std.specs.List.{concat}
use Rattle.std.specs.Prelude.{All}
use Rattle.tpm_wire.specs.declared.refusal.Refusal.{Refusal}
use Rattle.tpm_wire.specs.Sources.{OfBytes}
use Rattle.tpm_stream.specs.declared.framer.FramerState.TheVariants.{More, Ready, Broken}
use Rattle.tpm_stream.specs.declared.framer.FramerState.{FramerState}
use Rattle.tpm_stream.specs.declared.reader.ReadFault.TheVariants.{Device, EndInside, Broken as BrokenInput}
use Rattle.tpm_stream.specs.declared.reader.ReadFault.{ReadFault}
use Rattle.tpm_stream.specs.Frames.{stated, IsFrame, BeginsNoFrame, IsBroken, IsPart, HasState, Frames, Push, Pushes}
use Rattle.tpm_stream.specs.Frames.{Advances, bad_size}
use Rattle.tpm_stream.specs.Reads.{ReadsFrame, IsAnswer}
use Rattle.tpm_stream.specs.Streams.{Framing, GivenPiece, GivenPieces, ReadInTurn, of_new}
use Rattle.tpm_stream.proofs.Framed.{stated_more, front_frame, short_part, sized_part, push, pushes_short, pushes_broken}
use Rattle.tpm_stream.proofs.Framed.{pushes_part, pushes_ready}
use Rattle.arrayvec.specs.ArrayVec.{ArrayVec}

-- ---- one way to split a stream

-- two frames at the beginning of the same bytes are one
pub one_first : (f g a b : List ℕ) → IsFrame f → IsFrame g → f ++ a ≡ g ++ b → (f ≡ g) × (a ≡ b)
one_first f g a b x y e =
    let n : length f ≡ length g =
    omega (
      arith,
      x.states_it,
      y.states_it,
      x.least,
      y.least,
      sym (stated_more f a (omega (arith, x.least)))
          ∙ ap stated e
          ∙ stated_more g b (omega (arith, y.least)),
    ) in (
      sym (take_at f a (length f) refl) ∙ ap (take (length f)) e ∙ take_at g b (length f) (sym n),
      sym (drop_at f a (length f) refl) ∙ ap (drop (length f)) e ∙ drop_at g b (length f) (sym n),
    )

pub one_split : (frames others : List (List ℕ)) (rest other : List ℕ) → All IsFrame frames → All IsFrame others → BeginsNoFrame rest → BeginsNoFrame other
    → concat frames ++ rest ≡ concat others ++ other → (frames ≡ others) × (rest ≡ other)
one_split [] [] rest other x y over none e = (refl, e)
one_split [] (g ∷ gs) rest other x y over none e = absurd (over g (concat gs ++ other) (All-head IsFrame g gs y) (e ∙ append_assoc g (concat gs) other))
one_split (f ∷ fs) [] rest other x y over none e = absurd (none f (concat fs ++ rest) (All-head IsFrame f fs x) (sym e ∙ append_assoc f (concat fs) rest))
one_split (f ∷ fs) (g ∷ gs) rest other x y over none e =
    let start =
    one_first f g (concat fs ++ rest) (concat gs ++ other) (All-head IsFrame f fs x) (All-head IsFrame g gs y)
    (sym (append_assoc f (concat fs) rest) ∙ e ∙ append_assoc g (concat gs) other) in
    let later = one_split fs gs rest other (All-tail IsFrame f fs x) (All-tail IsFrame g gs y) over none start.1 in
    (ap (λ (h : List ℕ). h ∷ fs) start.0 ∙ ap (λ (hs : List (List ℕ)). g ∷ hs) later.0, later.1)

pub one : (stream : List ℕ) (frames others : List (List ℕ)) (rest other : List ℕ) → Frames stream frames rest
    → Frames stream others other → (frames ≡ others) × (rest ≡ other)
one stream frames others rest other x y = one_split frames others rest other x.each y.each x.over y.over (sym x.whole ∙ y.whole)

pub first : (frame stream : List ℕ) (frames : List (List ℕ)) (rest : List ℕ) → IsFrame frame → Frames stream frames rest
    → Frames (frame ++ stream) (frame ∷ frames) rest
first frame stream frames rest is x = record {
  whole = ap (λ (r : List ℕ). frame ++ r) x.whole ∙ sym (append_assoc frame (concat frames) rest);
  each = All-cons IsFrame frame frames is x.each;
  over = x.over;
}

-- ---- there is one

-- bytes are part of a frame, have a bad size or begin with a frame
abbrev Begin : List ℕ → Type 0
Begin bytes = IsPart bytes ⊎ IsBroken bytes ⊎ IsFrame (take (stated bytes) bytes)

begin : (bytes : List ℕ) → Begin bytes
begin bytes = elim (cases_lt (length bytes) 6) [
  | inl lt ↦ inl (short_part bytes lt)
  | inr sized ↦ elim (cases_lt (stated bytes) 10) [
    | inl low ↦ inr (inl (record { has_size = sized; outside = inl low }))
    | inr least ↦ elim (cases_lt 4096 (stated bytes)) [
      | inl high ↦ inr (inl (record { has_size = sized; outside = inr high }))
      | inr most ↦ elim (cases_lt (length bytes) (stated bytes)) [
        | inl lt ↦ inl (sized_part bytes sized least most lt)
        | inr le ↦ inr (inr (front_frame bytes least most le))
      ]
    ]
  ]
]

-- what comes behind a bad size doesn't mend it
pub broken_begins : (bytes more : List ℕ) → IsBroken bytes → BeginsNoFrame (bytes ++ more)
broken_begins bytes more b f others is e =
    let same : stated bytes ≡ length f =
    sym (stated_more bytes more b.has_size)
    ∙ ap stated e
    ∙ stated_more f others (omega (arith, is.least))
    ∙ is.states_it in
    elim b.outside [ inl low ↦ absurd (omega (arith, same, low, is.least)) | inr high ↦ absurd (omega (arith, same, high, is.most)) ]

rest_alone : (rest : List ℕ) → BeginsNoFrame rest → Frames rest [] rest
rest_alone rest over = record { whole = refl; each = All-nil IsFrame; over = over }

some_split : (fuel : ℕ) (stream : List ℕ) → length stream ≤ fuel → (frames : List (List ℕ)) × (rest : List ℕ) × Frames stream frames rest
some_split zero stream le = ([], stream, rest_alone stream (short_part stream (omega (arith, le))).no_frame)
some_split (suc fuel) stream le = elim (begin stream) [
  | inl is ↦ ([], stream, rest_alone stream is.no_frame)
  | inr (inl is) ↦ ([], stream, rest_alone stream (subst BeginsNoFrame (append-nil stream) (broken_begins stream [] is)))
  | inr (inr is) ↦
      let n = stated stream in
      let later =
      some_split fuel (drop n stream)
      (omega (
        arith,
        le,
        is.least,
        ap length (take-append-drop n stream),
        length-append (take n stream) (drop n stream),
      )) in (
        take n stream ∷ later.0,
        later.1,
        subst (λ (s : List ℕ). Frames s (take n stream ∷ later.0) later.1) (take-append-drop n stream)
            (first (take n stream) (drop n stream) later.0 later.1 is later.2),
      )
]

pub some : (stream : List ℕ) → (frames : List (List ℕ)) × (rest : List ℕ) × Frames stream frames rest
some stream = some_split (length stream) stream (omega arith)

pub rest_is : (stream : List ℕ) (frames : List (List ℕ)) (rest : List ℕ) → Frames stream frames rest → IsPart rest ⊎ IsBroken rest
rest_is stream frames rest x = elim (begin rest) [
  | inl is ↦ inl is
  | inr (inl is) ↦ inr is
  | inr (inr is) ↦ absurd (x.over (take (stated rest) rest) (drop (stated rest) rest) is (sym (take-append-drop (stated rest) rest)))
]

-- ---- a framer, piece by piece

-- what a framer may hold where no frame is ready
abbrev Between : List ℕ → Type 0
Between held = IsPart held ⊎ IsBroken held

no_broken_frame : (bytes : List ℕ) → IsBroken bytes → IsFrame bytes → ⊥
no_broken_frame bytes b is =
    elim b.outside [
      | inl low ↦ absurd (omega (arith, low, is.states_it, is.least))
      | inr high ↦ absurd (omega (arith, high, is.states_it, is.most))
    ]

-- a broken framer takes nothing
broken_takes_none : (held piece new : List ℕ) (k : ℕ) (state : FramerState) → IsBroken held → Pushes (push held piece new k state) → (k ≡ 0) × (new ≡ held)
broken_takes_none held piece new zero state b p = (refl, p.held ∙ append-nil held)
broken_takes_none held piece new (suc k) state b p = absurd ((p.fewest 0 (omega arith)).not_broken (subst IsBroken (sym (append-nil held)) b))

answers_broken : (new : List ℕ) (state : FramerState) → IsBroken new → HasState new state → state ≡ Broken bad_size
answers_broken new More b is = absurd (is.not_broken b)
answers_broken new Ready b is = absurd (no_broken_frame new b is)
answers_broken new (Broken e) b is = ap Broken is.1

pub push_broken : (p : Push) → IsBroken p.old → Pushes p → (p.taken ≡ 0) × (p.new ≡ p.old) × (p.state ≡ Broken bad_size)
push_broken p b pushed =
    let none = broken_takes_none p.old p.piece p.new p.taken p.state b pushed in
    (none.0, none.1, answers_broken p.new p.state (subst IsBroken (sym none.1) b) pushed.answer)

pub next_broken : (held new : List ℕ) → IsBroken held → Advances held new → new ≡ held
next_broken held new b a = a.other (no_broken_frame held b)

-- all but the bytes left are in the frames and what is held
record Split (stream : List ℕ) (frames : List (List ℕ)) (new left : List ℕ) : Type 0 where
  whole : stream ≡ concat frames ++ (new ++ left)
  each : All IsFrame frames
  over : (IsPart new × (left ≡ [])) ⊎ IsBroken new

-- what a push took and what it left
pushed_whole : (held piece new : List ℕ) (k : ℕ) (state : FramerState) → Pushes (push held piece new k state) → held ++ piece ≡ new ++ drop k piece
pushed_whole held piece new k state p =
    ap (λ (r : List ℕ). held ++ r) (sym (take-append-drop k piece))
    ∙ sym (append_assoc held (take k piece) (drop k piece))
    ∙ ap (λ (r : List ℕ). r ++ drop k piece) (sym p.held)

piece_end : (held piece new left : List ℕ) (k : ℕ) (state : FramerState) → Pushes (push held piece new k state) → state ≢ Ready
    → left ≡ drop k piece → Split (held ++ piece) [] new left
piece_end held piece new left k More p unready is = record {
  whole = pushed_whole held piece new k More p ∙ ap (λ (r : List ℕ). new ++ r) (sym is);
  each = All-nil IsFrame;
  over = inl (p.answer, nil_from_length left (omega (arith, ap length is, length-drop k piece, p.all refl)));
}
piece_end held piece new left k Ready p unready is = absurd (unready refl)
piece_end held piece new left k (Broken e) p unready is = record {
  whole = pushed_whole held piece new k (Broken e) p ∙ ap (λ (r : List ℕ). new ++ r) (sym is);
  each = All-nil IsFrame;
  over = inr p.answer.0;
}

abbrev framing : (old new left : List ℕ) → Framing
framing old new left = record { old = old; new = new; left = left }

nothing : Between []
nothing = inl (short_part [] (omega arith))

given_piece : (frames : List (List ℕ)) (held piece new left : List ℕ) → GivenPiece (framing held new left) piece frames → Split (held ++ piece) frames new left
given_piece [] held piece new left g = piece_end held piece new left g.0 g.1 g.2 g.3 g.4
given_piece (frame ∷ frames) held piece new left g =
    let later = given_piece frames g.1 (drop g.0 piece) new left g.4 in
    let empty : g.1 ≡ [] = g.3.frame g.2.answer in
    record {
      whole =
          pushed_whole held piece frame g.0 Ready g.2
          ∙ ap (λ (r : List ℕ). frame ++ r) (ap (λ (r : List ℕ). r ++ drop g.0 piece) (sym empty) ∙ later.whole)
          ∙ sym (append_assoc frame (concat frames) (new ++ left));
      each = All-cons IsFrame frame frames g.2.answer later.each;
      over = later.over;
    }

broken_piece : (frames : List (List ℕ)) (held piece new left : List ℕ) → IsBroken held
    → GivenPiece (framing held new left) piece frames → (frames ≡ []) × (new ≡ held) × (left ≡ piece)
broken_piece [] held piece new left b g =
    let none = broken_takes_none held piece new g.0 g.1 b g.2 in
    (refl, none.1, g.4 ∙ ap (λ k. drop k piece) none.0)
broken_piece (frame ∷ frames) held piece new left b g =
    let none = broken_takes_none held piece frame g.0 Ready b g.2 in
    absurd (no_broken_frame held b (subst IsFrame none.1 g.2.answer))

broken_pieces : (pieces : List (List ℕ)) (held : List ℕ) (frames : List (List ℕ)) (new left : List ℕ) → IsBroken held
    → GivenPieces (framing held new left) pieces frames
    → (frames ≡ []) × (new ≡ held) × (left ≡ concat pieces)
broken_pieces [] held frames new left b g = g
broken_pieces (piece ∷ pieces) held frames new left b g =
    let one = broken_piece g.0 held piece g.2 g.3 b g.5 in
    let more = broken_pieces pieces g.2 g.1 new g.4 (subst IsBroken (sym one.1) b) g.6 in (
      g.7 ∙ ap (λ (fs : List (List ℕ)). fs ++ g.1) one.0 ∙ more.0,
      more.1 ∙ one.1,
      g.8 ∙ ap (λ (r : List ℕ). r ++ g.4) one.2 ∙ ap (λ (r : List ℕ). piece ++ r) more.2,
    )

given_pieces : (pieces : List (List ℕ)) (held : List ℕ) (frames : List (List ℕ)) (new left : List ℕ) → Between held
    → GivenPieces (framing held new left) pieces frames
    → Split (held ++ concat pieces) frames new left
given_pieces [] held frames new left is g =
    let none : Split (held ++ []) [] held [] =
    record { whole = refl; each = All-nil IsFrame; over = elim is [ inl part ↦ inl (part, refl) | inr broken ↦ inr broken ] } in
    subst (λ (fs : List (List ℕ)). Split (held ++ []) fs new left) (sym g.0)
    (subst (λ (n : List ℕ). Split (held ++ []) [] n left) (sym g.1) (subst (λ (l : List ℕ). Split (held ++ []) [] held l) (sym g.2) none))
given_pieces (piece ∷ pieces) held frames new left is g =
    let one = given_piece g.0 held piece g.2 g.3 g.5 in
    let so_far : held ++ (piece ++ concat pieces) ≡ concat g.0 ++ (g.2 ++ (g.3 ++ concat pieces)) =
    sym (append_assoc held piece (concat pieces)) ∙ ap (λ (r : List ℕ). r ++ concat pieces) one.whole ∙ append_assoc (concat g.0) (g.2 ++ g.3) (concat pieces)
    ∙ ap (λ (r : List ℕ). concat g.0 ++ r) (append_assoc g.2 g.3 (concat pieces)) in
    elim one.over [
      | inl part ↦
          let more = given_pieces pieces g.2 g.1 new g.4 (inl part.0) g.6 in
          record {
            whole =
                so_far ∙ ap (λ (r : List ℕ). concat g.0 ++ (g.2 ++ (r ++ concat pieces))) part.1 ∙ ap (λ (r : List ℕ). concat g.0 ++ r) more.whole
                ∙ sym (append_assoc (concat g.0) (concat g.1) (new ++ g.4)) ∙ ap (λ (r : List ℕ). r ++ (new ++ g.4)) (sym (concat-append g.0 g.1))
                ∙ ap (λ (fs : List (List ℕ)). concat fs ++ (new ++ g.4)) (sym g.7)
                ∙ ap (λ (r : List ℕ). concat frames ++ (new ++ (r ++ g.4))) (sym part.1)
                ∙ ap (λ (r : List ℕ). concat frames ++ (new ++ r)) (sym g.8);
            each = subst (All IsFrame) (sym g.7) (All-append IsFrame g.0 g.1 one.each more.each);
            over = elim more.over [ inl last ↦ inl (last.0, g.8 ∙ ap (λ (r : List ℕ). r ++ g.4) part.1 ∙ last.1) | inr broken ↦ inr broken ];
          }
      | inr broken ↦
          let more = broken_pieces pieces g.2 g.1 new g.4 broken g.6 in
          let same : frames ≡ g.0 = g.7 ∙ ap (λ (fs : List (List ℕ)). g.0 ++ fs) more.0 ∙ append-nil g.0 in
          record {
            whole =
                so_far
                ∙ ap (λ (fs : List (List ℕ)). concat fs ++ (g.2 ++ (g.3 ++ concat pieces))) (sym same)
                ∙ ap (λ (n : List ℕ). concat frames ++ (n ++ (g.3 ++ concat pieces))) (sym more.1)
                ∙ ap (λ (r : List ℕ). concat frames ++ (new ++ (g.3 ++ r))) (sym more.2) ∙ ap (λ (r : List ℕ). concat frames ++ (new ++ r)) (sym g.8);
            each = subst (All IsFrame) (sym same) one.each;
            over = inr (subst IsBroken (sym more.1) broken);
          }
    ]

pub of_pieces : (pieces frames : List (List ℕ)) (held left : List ℕ) → GivenPieces (of_new held left) pieces frames
    → Frames (concat pieces) frames (held ++ left)
of_pieces pieces frames held left g =
    let split = given_pieces pieces [] frames held left nothing g in
    record {
      whole = split.whole;
      each = split.each;
      over = elim split.over [
        | inl part ↦ subst BeginsNoFrame (sym (append-nil held) ∙ ap (λ (r : List ℕ). held ++ r) (sym part.1)) part.0.no_frame
        | inr broken ↦ broken_begins held left broken
      ];
    }

pub one_of_pieces : (pieces others frames found : List (List ℕ)) (held left kept unused : List ℕ) → concat pieces ≡ concat others
    → GivenPieces (of_new held left) pieces frames → GivenPieces (of_new kept unused) others found → (frames ≡ found) × (held ++ left ≡ kept ++ unused)
one_of_pieces pieces others frames found held left kept unused e g h =
    one (concat others) frames found (held ++ left) (kept ++ unused)
    (subst (λ (s : List ℕ). Frames s frames (held ++ left)) e (of_pieces pieces frames held left g))
    (of_pieces others found kept unused h)

pub rest_of_pieces : (pieces frames : List (List ℕ)) (held left : List ℕ) → GivenPieces (of_new held left) pieces frames
    → (IsPart held × (left ≡ [])) ⊎ IsBroken held
rest_of_pieces pieces frames held left g = (given_pieces pieces [] frames held left nothing g).over

-- ---- a framer goes on to the end of the pieces

abbrev SomePush : List ℕ → List ℕ → Type 0
SomePush held piece = (new : List ℕ) × (k : ℕ) × (state : FramerState) × Pushes (push held piece new k state)

push_part : (held piece : List ℕ) → IsPart held → SomePush held piece
push_part held piece part =
    let n = min (6 - length held) (length piece) in
    let mid = held ++ take n piece in
    elim (cases_lt (length mid) 6) [
      | inl lt ↦ (mid, n, More, pushes_short held piece mid n refl refl lt)
      | inr sized ↦ elim (cases_lt (stated mid) 10) [
        | inl low ↦ (mid, n, Broken bad_size, pushes_broken held piece mid n bad_size refl refl sized (inl low) refl)
        | inr least ↦ elim (cases_lt 4096 (stated mid)) [
          | inl high ↦ (mid, n, Broken bad_size, pushes_broken held piece mid n bad_size refl refl sized (inr high) refl)
          | inr most ↦
              let m = min (stated mid - length mid) (length (drop n piece)) in
              let new = mid ++ take m (drop n piece) in
              elim (cases_lt (length new) (stated mid)) [
                | inl lt ↦ (new, n + m, More, pushes_part held piece mid new n m (stated mid) (inl part) refl refl sized refl least most refl refl lt)
                | inr le ↦ (new, n + m, Ready, pushes_ready held piece mid new n m (stated mid) (inl part) refl refl sized refl least most refl refl le)
              ]
        ]
      ]
    ]

abbrev SomePiece : List ℕ → List ℕ → Type 0
SomePiece held piece = (frames : List (List ℕ)) × (new left : List ℕ) × GivenPiece (framing held new left) piece frames

-- a frame takes at least one byte
some_taken : (held piece frame : List ℕ) (k : ℕ) → IsPart held → Pushes (push held piece frame k Ready) → 0 < k
some_taken held piece frame zero part p = absurd (part.no_frame frame [] p.answer (sym (p.held ∙ append-nil held) ∙ sym (append-nil frame)))
some_taken held piece frame (suc k) part p = omega arith

after_push : (held piece new : List ℕ) (k : ℕ) (state : FramerState) → IsPart held → Pushes (push held piece new k state)
    → ((k : ℕ) → 0 < k → k ≤ length piece → SomePiece [] (drop k piece)) → SomePiece held piece
after_push held piece new k More part p go = ([], new, drop k piece, (k, More, p, (λ e. cc), refl))
after_push held piece new k (Broken e) part p go = ([], new, drop k piece, (k, Broken e, p, (λ e. cc), refl))
after_push held piece new k Ready part p go =
    let later = go k (some_taken held piece new k part p) p.within in
    (new ∷ later.0, later.1, later.2, (k, [], p, record { frame = λ _. refl; other = λ none. absurd (none p.answer) }, later.3))

one_piece : (held piece : List ℕ) → Between held → ((k : ℕ) → 0 < k → k ≤ length piece → SomePiece [] (drop k piece)) → SomePiece held piece
one_piece held piece (inl part) go =
    let push = push_part held piece part in
    after_push held piece push.0 push.1 push.2 part push.3 go
one_piece held piece (inr broken) go = (
  [],
  held,
  piece,
  (
    0,
    Broken bad_size,
    record { within = omega arith; held = sym (append-nil held); answer = (broken, refl); fewest = λ j less. absurd (omega (arith, less)); all = λ e. cc },
    (λ e. cc),
    refl,
  ),
)

given_some : (fuel : ℕ) (held piece : List ℕ) → length piece ≤ fuel → Between held → SomePiece held piece
given_some zero held piece le is = one_piece held piece is (λ k pos fits. absurd (omega (arith, le, pos, fits)))
given_some (suc fuel) held piece le is =
    one_piece held piece is
    (λ k pos fits. given_some fuel [] (drop k piece) (omega (arith, le, pos, fits, length-drop k piece)) nothing)

pieces_some : (pieces : List (List ℕ)) (held : List ℕ) → Between held → (frames : List (List ℕ)) × (new left : List ℕ)
    × GivenPieces (framing held new left) pieces frames
pieces_some [] held is = ([], held, [], (refl, refl, refl))
pieces_some (piece ∷ pieces) held is =
    let one = given_some (length piece) held piece (omega arith) is in
    let split = given_piece one.0 held piece one.1 one.2 one.3 in
    let more = pieces_some pieces one.1 (elim split.over [ inl part ↦ inl part.0 | inr broken ↦ inr broken ]) in
    (one.0 ++ more.0, more.1, one.2 ++ more.2, (one.0, more.0, one.1, one.2, more.2, one.3, more.3, refl, refl))

pub some_of_pieces : (pieces : List (List ℕ)) → (frames : List (List ℕ)) × (held left : List ℕ) × GivenPieces (of_new held left) pieces frames
some_of_pieces pieces = pieces_some pieces [] nothing

-- ---- a reader, frame by frame

record ReadTo (bytes : List ℕ) (frames : List (List ℕ)) (last : Result (Option (ArrayVec ℕ)) ReadFault) : Type 0 where
  rest : List ℕ
  more : List ℕ
  whole : bytes ≡ concat frames ++ rest
  each : All IsFrame frames
  end : ReadsFrame (Some rest) (Some more) last

read_to : (frames : List (List ℕ)) (bytes : List ℕ) (last : Result (Option (ArrayVec ℕ)) ReadFault)
    → ReadInTurn (Some bytes) frames last → ReadTo bytes frames last
read_to [] bytes last (Some more, g) = record { rest = bytes; more = more; whole = refl; each = All-nil IsFrame; end = g }
read_to [] bytes last (None, g) = absurd g.1
read_to (frame ∷ frames) bytes last (None, read, g) = absurd read.1
read_to (frame ∷ frames) bytes last (Some more, read, g) =
    let later = read_to frames more last g in
    record {
      rest = later.rest;
      more = later.more;
      whole =
          read.1
          ∙ ap (λ (r : List ℕ). r ++ more) (sym read.2.1)
          ∙ ap (λ (r : List ℕ). frame ++ r) later.whole
          ∙ sym (append_assoc frame (concat frames) later.rest);
      each = All-cons IsFrame frame frames (subst IsFrame (sym read.2.1) read.2.0) later.each;
      end = later.end;
    }

told_end : (bytes : List ℕ) (frames : List (List ℕ)) → ReadInTurn (Some bytes) frames (Ok None) → Frames bytes frames []
told_end bytes frames g =
    let r = read_to frames bytes (Ok None) g in
    let end = r.end in
    let none : r.rest ≡ [] = end.1 ∙ ap (λ (b : List ℕ). b ++ r.more) end.2.0 ∙ end.2.1 in
    record {
      whole = r.whole ∙ ap (λ (b : List ℕ). concat frames ++ b) none;
      each = r.each;
      over = (short_part [] (omega arith)).no_frame;
    }

told_inside : (bytes : List ℕ) (frames : List (List ℕ)) → ReadInTurn (Some bytes) frames (Err EndInside)
    → (rest : List ℕ) × Frames bytes frames rest × IsPart rest × (0 < length rest)
told_inside bytes frames g =
    let r = read_to frames bytes (Err EndInside) g in
    let end = r.end in
    let all : end.0 ≡ r.rest = sym (end.1 ∙ ap (λ (b : List ℕ). end.0 ++ b) end.2.2 ∙ append-nil end.0) in
    let part : IsPart r.rest = subst IsPart all end.2.0 in
    (r.rest, record { whole = r.whole; each = r.each; over = part.no_frame }, part, omega (arith, ap length all, end.2.1))

told_broken : (bytes : List ℕ) (frames : List (List ℕ)) (e : Refusal)
    → ReadInTurn (Some bytes) frames (Err (BrokenInput e)) → (rest : List ℕ) × Frames bytes frames rest × IsBroken rest
told_broken bytes frames e g =
    let r = read_to frames bytes (Err (BrokenInput e)) g in
    let end = r.end in
    let b : IsBroken end.0 = end.2.0 in
    let same : stated r.rest ≡ stated end.0 = ap stated end.1 ∙ stated_more end.0 r.more b.has_size in (
      r.rest,
      record { whole = r.whole; each = r.each; over = subst BeginsNoFrame (sym end.1) (broken_begins end.0 r.more b) },
      record {
        has_size = omega (arith, b.has_size, ap length end.1, length-append end.0 r.more);
        outside = elim b.outside [ inl low ↦ inl (omega (arith, low, same)) | inr high ↦ inr (omega (arith, high, same)) ];
      },
    )

-- ---- the same of sources that tell no bytes

OfBytes-map : {P Q : List ℕ → Type 0} → ((bytes : List ℕ) → P bytes → Q bytes) → (coming : Option (List ℕ)) → OfBytes P coming → OfBytes Q coming
OfBytes-map f (Some bytes) h = f bytes h
OfBytes-map f None h = (h.0, f h.0 h.1)

-- what was answered after some bytes is answered where these are all
answer_at_end : (bytes : List ℕ) (more : Option (List ℕ)) (last : Result (Option (ArrayVec ℕ)) ReadFault)
    → IsAnswer bytes more last → IsAnswer bytes (Some []) last
answer_at_end bytes more (Ok (Some frame)) h = h
answer_at_end bytes more (Ok None) h = (h.0, refl)
answer_at_end bytes more (Err Device) h = h
answer_at_end bytes more (Err EndInside) h = (h.0, h.1, refl)
answer_at_end bytes more (Err (BrokenInput e)) h = h

some_bytes : (frames : List (List ℕ)) (coming : Option (List ℕ)) (last : Result (Option (ArrayVec ℕ)) ReadFault) → ReadInTurn coming frames last
    → OfBytes (λ bytes. ReadInTurn (Some bytes) frames last) coming
some_bytes frames (Some bytes) last g = g
some_bytes [] None last (more, read) = (read.0, (Some [], (read.0, sym (append-nil read.0), answer_at_end read.0 more last read.2)))
some_bytes (frame ∷ frames) None last (Some more, read, later) = (read.0 ++ more, (Some more, (read.0, refl, read.2), later))
some_bytes (frame ∷ frames) None last (None, read, later) =
    let rest = some_bytes frames None last later in
    (read.0 ++ rest.0, (Some rest.0, (read.0, refl, read.2), rest.1))

pub read_to_end : (coming : Option (List ℕ)) (frames : List (List ℕ)) → ReadInTurn coming frames (Ok None) → OfBytes (λ bytes. Frames bytes frames []) coming
read_to_end coming frames g = OfBytes-map (λ bytes h. told_end bytes frames h) coming (some_bytes frames coming (Ok None) g)

pub read_inside : (coming : Option (List ℕ)) (frames : List (List ℕ)) → ReadInTurn coming frames (Err EndInside)
    → OfBytes (λ bytes. (rest : List ℕ) × Frames bytes frames rest × IsPart rest × (0 < length rest)) coming
read_inside coming frames g = OfBytes-map (λ bytes h. told_inside bytes frames h) coming (some_bytes frames coming (Err EndInside) g)

pub read_broken : (coming : Option (List ℕ)) (frames : List (List ℕ)) (e : Refusal) → ReadInTurn coming frames (Err (BrokenInput e))
    → OfBytes (λ bytes. (rest : List ℕ) × Frames bytes frames rest × IsBroken rest) coming
read_broken coming frames e g = OfBytes-map (λ bytes h. told_broken bytes frames e h) coming (some_bytes frames coming (Err (BrokenInput e)) g)
