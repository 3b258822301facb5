-- Inputs whose lines are given to a sink one after the other.
use Rattle.std.proofs.Common.{◌≡◌, ◌⊎◌, ℕ, Bool, true, ◌+◌, ◌<◌, ◌≤◌, false, List, [], ◌∷◌, ◌++◌, length, take, Option, Some}
use Rattle.std.proofs.Common.{None, refl, sym, ap, subst, ◌∙◌, inl, inr, arith, append_assoc, length-append, length-take, length-take-le}
use Rattle.std.proofs.lemmas.Bool.{cases_lt}
use Rattle.std.proofs.lemmas.List.{append-nil, take_all, take-append-le}
use Rattle.std.proofs.lemmas.List.Elements.{filter-append}
use Rattle.std.specs.Prelude.{filter, nat_eq}
use Rattle.std.specs.Io.KnownBytes.{Consumes, Keeps}
use Rattle.tpm_stream.proofs.Filled.{consumes_both}
use Rattle.tpm_output.specs.declared.input_lines.LineReader.{LineReader}
use Rattle.tpm_output.specs.InputLines.{lines_of, HasNoFeed, most_piece}
use Rattle.tpm_output.specs.LineSinks.{GoesOn, Limits, ReadsLines, ReadsOneMore, LineStep, LinesEnd, LinesStart, StopsAt, TakesAll, TakesFrom, buffered}
use Rattle.tpm_output.specs.LineSinks.{some_if}
use Rattle.tpm_output.specs.inner.InputLines.{room_behind}
use Rattle.tpm_output.specs.inner.LineReading.{EndsAll, EndsLine, Feeds, FeedsOn, Holds}
use Rattle.tpm_output.specs.inner.LineReading.{has_some}
use Rattle.tpm_output.proofs.InputLines.{no_feed-more, ended_line, ended_both, last_line, first_line, other_lines, longer_line}
use Rattle.tpm_output.proofs.InputLines.{lines_of-append}

-- ---- what is buffered of a line

fits_in : (most : ℕ) (xs : List ℕ) → length (take (most + 1) xs) ≤ most → length xs ≤ most
fits_in most xs le = elim (cases_lt most (length xs)) [
  | inl many ↦ absurd (omega (arith, le, length-take-le (most + 1) xs (omega (arith, many))))
  | inr few ↦ few
]

over : (most : ℕ) (xs : List ℕ) → most < length (take (most + 1) xs) → most < length xs
over most xs lt = elim (cases_lt most (length xs)) [
  | inl many ↦ many
  | inr few ↦ absurd (omega (arith, few, lt, ap length (take_all (most + 1) xs (omega (arith, few)))))
]

keeps_in : (most : ℕ) (xs : List ℕ) → length xs ≤ most → take (most + 1) xs ≡ xs
keeps_in most xs le = take_all (most + 1) xs (omega (arith, le))

-- Of bytes of which one too many are buffered more makes no difference.
keeps_full : (most : ℕ) (xs ys : List ℕ) → most < length (take (most + 1) xs) → take (most + 1) (xs ++ ys) ≡ take (most + 1) xs
keeps_full most xs ys lt = elim (cases_lt most (length xs)) [
  | inl many ↦ take-append-le (most + 1) xs ys (omega (arith, many))
  | inr few ↦ absurd (omega (arith, few, lt, ap length (keeps_in most xs few)))
]

module _ (limits : Limits) where
  buffered-append : (line more : List ℕ) → buffered limits (line ++ more) ≡ take (limits.most + 1) (filter limits.counts line ++ filter limits.counts more)
  buffered-append line more = ap (take (limits.most + 1)) (filter-append limits.counts line more)

  buffered_blank : (line : List ℕ) (byte : ℕ) → limits.counts byte ≡ false → buffered limits (line ++ byte ∷ []) ≡ buffered limits line
  buffered_blank line byte blank = buffered-append line (byte ∷ []) ∙ rw (blank, append-nil (filter limits.counts line)) refl

  buffered_full : (line more : List ℕ) → limits.most < length (buffered limits line) → buffered limits (line ++ more) ≡ buffered limits line
  buffered_full line more lt = buffered-append line more ∙ keeps_full limits.most (filter limits.counts line) (filter limits.counts more) lt

  buffered_more : (line : List ℕ) (byte : ℕ) → limits.counts byte ≡ true → length (buffered limits line) ≤ limits.most
      → buffered limits (line ++ byte ∷ []) ≡ buffered limits line ++ byte ∷ []
  buffered_more line byte counts le =
      let xs = filter limits.counts line in
      let few : length xs ≤ limits.most = fits_in limits.most xs le in
      buffered-append line (byte ∷ [])
      ∙ rw counts (take_all (limits.most + 1) (xs ++ byte ∷ []) (omega (arith, few, length-append xs (byte ∷ []))))
      ∙ ap (λ (ys : List ℕ). ys ++ byte ∷ []) (sym (keeps_in limits.most xs few))

has_some-more : (line : List ℕ) (byte : ℕ) → has_some (line ++ byte ∷ []) ≡ true
has_some-more [] byte = refl
has_some-more (x ∷ line) byte = refl

over_further : {P : Type 0} (rest ys : List ℕ) → ((more : List ℕ) × (rest ≡ 10 ∷ more)) ⊎ P → ((more : List ℕ) × (rest ++ ys ≡ 10 ∷ more)) ⊎ P
over_further rest ys (inl f) = inl (f.0 ++ ys, rw f.1 refl)
over_further rest ys (inr p) = inr p

further : (before xs ys more : List ℕ) → (before ++ xs) ++ (ys ++ more) ≡ (before ++ (xs ++ ys)) ++ more
further before xs ys more =
    append_assoc before xs (ys ++ more)
    ∙ ap (λ (bytes : List ℕ). before ++ bytes) (sym (append_assoc xs ys more))
    ∙ sym (append_assoc before (xs ++ ys) more)

none_has : (line : List ℕ) → has_some line ≡ false → line ≡ []
none_has [] e = refl
none_has (x ∷ line) e = absurd (cc)

-- ---- lines that are taken

module _ {S : Type 0} (Takes : LineStep S → Type 0) where
  at_number : (m n : ℕ) (s : S) (lines : List (List ℕ)) (end : LinesEnd S) → m ≡ n
      → TakesFrom Takes (record { number = m; sink = s }) lines end → TakesFrom Takes (record { number = n; sink = s }) lines end
  at_number m n s lines end same f = subst (λ (number : ℕ). TakesFrom Takes (record { number = number; sink = s }) lines end) same f

  pub takes_append : (start : LinesStart S) (mid : S) (one : List ℕ) (xs ys : List (List ℕ)) (end : LinesEnd S)
      → TakesFrom Takes start xs (record { left = Some mid; text = one })
      → TakesFrom Takes (record { number = start.number + length xs; sink = mid }) ys end
      → TakesFrom Takes start (xs ++ ys) (record { left = end.left; text = one ++ end.text })
  takes_append start mid one [] ys end f g =
      let n = start.number in
      let same : n + 0 ≡ n = omega arith in
      let is : mid ≡ start.sink = cc (f.0) in
      rw f.1 (subst (λ (s : S). TakesFrom Takes (record { number = n; sink = s }) ys end) is (at_number (n + 0) n mid ys end same g))
  takes_append start mid one (x ∷ xs) ys end (inl f) g =
      let n = start.number in
      let same : n + length (x ∷ xs) ≡ n + 1 + length xs = omega arith in
      inl (
        f.0,
        f.1,
        f.2 ++ end.text,
        f.3,
        takes_append (record { number = n + 1; sink = f.0 }) mid f.2 xs ys end f.4 (at_number (n + length (x ∷ xs)) (n + 1 + length xs) mid ys end same g),
        rw f.5 (append_assoc f.1 f.2 end.text),
      )
  takes_append start mid one (x ∷ xs) ys end (inr f) g = let z : ⊥ = cc (f.0) in absurd z

  takes_line : (n : ℕ) (s t : S) (line added : List ℕ) → Takes (record { number = n; old = s; line = line; new = Some t; text = added })
      → TakesFrom Takes (record { number = n; sink = s }) (line ∷ []) (record { left = Some t; text = added })
  takes_line n s t line added f = inl (t, added, [], f, (refl, refl), sym (append-nil added))

  takes_stop : (n : ℕ) (s : S) (line added : List ℕ) (others : List (List ℕ))
      → Takes (record { number = n; old = s; line = line; new = None; text = added })
      → TakesFrom Takes (record { number = n; sink = s }) (line ∷ others) (record { left = None; text = added })
  takes_stop n s line added others f = inr (refl, f)

-- ---- a reader

module _ {S : Type 0} (limits : Limits) (Takes : LineStep S → Type 0) where
  lines_here : (first : S) (before : List ℕ) (g : GoesOn limits Takes first before) (byte : ℕ) (more : List ℕ)
      → lines_of ((before ++ byte ∷ []) ++ more) ≡ lines_of g.lines ++ lines_of (g.line ++ byte ∷ more)
  lines_here first before g byte more =
      ap lines_of (
      append_assoc before (byte ∷ []) more
      ∙ ap (λ (bytes : List ℕ). bytes ++ byte ∷ more) g.are
      ∙ append_assoc g.lines g.line (byte ∷ more)
      )
      ∙ lines_of-append g.lines (g.line ++ byte ∷ more) g.ended

  held : (first : S) (bytes text : List ℕ) (r : LineReader S) (h : Holds limits Takes first bytes text r)
      → TakesAll Takes (record { first = first; bytes = h.goes.lines; left = Some r.sink; text = text })
  held first bytes text r h =
      subst (λ (s : S). TakesAll Takes (record { first = first; bytes = h.goes.lines; left = Some s; text = text })) h.sink
      (subst (λ (t : List ℕ). TakesAll Takes (record { first = first; bytes = h.goes.lines; left = Some h.goes.sink; text = t })) h.same h.goes.takes)

  -- what comes behind the lines that have ended
  behind : (first : S) (bytes text : List ℕ) (r : LineReader S) (lines : List (List ℕ)) (end : LinesEnd S)
      → (h : Holds limits Takes first bytes text r) → TakesFrom Takes (record { number = r.number; sink = r.sink }) lines end
      → TakesFrom Takes (record { number = 1; sink = first }) (lines_of h.goes.lines ++ lines) (record { left = end.left; text = text ++ end.text })
  behind first bytes text r lines end h f =
      let before = lines_of h.goes.lines in
      takes_append Takes (record { number = 1; sink = first }) r.sink text before lines end (held first bytes text r h)
      (at_number Takes r.number (1 + length before) r.sink lines end h.number f)

  -- a byte of a line
  pub holds_byte : (old new : LineReader S) (byte : ℕ) → nat_eq byte 10 ≡ false → new.sink ≡ old.sink → new.number ≡ old.number → new.begun ≡ true
      → ((line : List ℕ) → old.line.items ≡ buffered limits line → new.line.items ≡ buffered limits (line ++ byte ∷ []))
      → (limits.long_ends ≡ true → length old.line.items ≤ limits.most → length new.line.items ≤ limits.most)
      → FeedsOn limits Takes old new (byte ∷ []) []
  holds_byte old new byte other sink number begun keeps fits = λ first before text h.
      let g = h.goes in
      let line : new.line.items ≡ buffered limits (g.line ++ byte ∷ []) = keeps g.line h.line in
      let was : limits.long_ends ≡ true → length old.line.items ≤ limits.most =
      λ ends. rw (h.line, keeps_in limits.most (filter limits.counts g.line) (g.short ends)) (g.short ends) in
      record {
        goes = record {
          lines = g.lines;
          line = g.line ++ byte ∷ [];
          are = ap (λ (bytes : List ℕ). bytes ++ byte ∷ []) g.are ∙ append_assoc g.lines g.line (byte ∷ []);
          ended = g.ended;
          one = no_feed-more g.line byte g.one other;
          short =
              λ ends. fits_in limits.most (filter limits.counts (g.line ++ byte ∷ []))
              (subst (λ (xs : List ℕ). length xs ≤ limits.most) line (fits ends (was ends)));
          sink = g.sink;
          text = g.text;
          takes = g.takes;
        };
        sink = h.sink ∙ sym sink;
        same = h.same ∙ sym (append-nil text);
        line = line;
        begun = begun ∙ sym (has_some-more g.line byte);
        number = number ∙ h.number;
      }

  -- one that is buffered, one that doesn't count, and one too many
  pub keeps_blank : (items : List ℕ) (byte : ℕ) → limits.counts byte ≡ false → (line : List ℕ) → items ≡ buffered limits line
      → items ≡ buffered limits (line ++ byte ∷ [])
  keeps_blank items byte blank line is = is ∙ sym (buffered_blank limits line byte blank)

  pub keeps_over : (items : List ℕ) (byte : ℕ) → limits.most < length items → (line : List ℕ) → items ≡ buffered limits line
      → items ≡ buffered limits (line ++ byte ∷ [])
  keeps_over items byte lt line is = is ∙ sym (buffered_full limits line (byte ∷ []) (rw is at lt))

  pub keeps_byte : (items : List ℕ) (byte : ℕ) → limits.counts byte ≡ true → length items ≤ limits.most → (line : List ℕ) → items ≡ buffered limits line
      → items ++ byte ∷ [] ≡ buffered limits (line ++ byte ∷ [])
  keeps_byte items byte counts le line is = ap (λ (xs : List ℕ). xs ++ byte ∷ []) is ∙ sym (buffered_more limits line byte counts (rw is at le))

  -- a line that ends
  pub feeds_end : (IsAt : ℕ → S → Type 0) (goes_on : Bool) (old new : LineReader S) (added : List ℕ)
      → EndsLine limits Takes IsAt goes_on old new added → Feeds limits Takes IsAt goes_on old new (10 ∷ []) added
  feeds_end IsAt true old new added ended = record {
    on = λ first before text h.
        let g = h.goes in
        let ends = g.line ++ 10 ∷ [] in
        let lines : lines_of (g.lines ++ ends) ≡ lines_of g.lines ++ g.line ∷ [] =
        lines_of-append g.lines ends g.ended ∙ ap (λ (ls : List (List ℕ)). lines_of g.lines ++ ls) (ended_line g.line [] g.one) in
        record {
          goes = record {
            lines = g.lines ++ ends;
            line = [];
            are = ap (λ (bytes : List ℕ). bytes ++ 10 ∷ []) g.are ∙ append_assoc g.lines g.line (10 ∷ []) ∙ sym (append-nil (g.lines ++ ends));
            ended = ended_both g.lines ends g.ended (inr (g.line, refl));
            one = tt;
            short = λ _. omega arith;
            sink = new.sink;
            text = text ++ added;
            takes = rw lines (behind first before text old (g.line ∷ []) (record { left = Some new.sink; text = added }) h
                (takes_line Takes old.number old.sink new.sink g.line added (ended.0 g.line (sym h.line))));
          };
          sink = refl;
          same = refl;
          line = ended.1.line ∙ sym (take_all (limits.most + 1) [] (omega arith));
          begun = ended.1.begun;
          number = omega (arith, ended.1.number, h.number, ap length lines, length-append (lines_of g.lines) (g.line ∷ []));
        };
    at = ended.1.at;
    number = omega (arith, ended.1.number);
  }
  feeds_end IsAt false old new added ended = λ first before text h.
      let g = h.goes in
      let stop = ended.0 g.line (sym h.line) in
      record {
        at = record {
          lines = g.lines;
          line = g.line;
          rest = 10 ∷ [];
          are = ap (λ (bytes : List ℕ). bytes ++ 10 ∷ []) g.are ∙ append_assoc g.lines g.line (10 ∷ []);
          ended = g.ended;
          one = g.one;
          over = inl ([], refl);
          sink = old.sink;
          text = text;
          takes = held first before text old h;
          last = added;
          stops = λ more. (
            g.line,
            lines_of more,
            lines_here first before g 10 more ∙ ap (λ (ls : List (List ℕ)). lines_of g.lines ++ ls) (ended_line g.line more g.one),
            subst (λ (n : ℕ). Takes (record { number = n; old = old.sink; line = g.line; new = None; text = added })) h.number stop,
          );
        };
        text_is = refl;
      }

  -- a line that is too long, and ends what is printed
  pub feeds_long : (IsAt : ℕ → S → Type 0) (goes_on : Bool) (old mid new : LineReader S) (byte : ℕ) (added : List ℕ)
      → limits.long_ends ≡ true
      → nat_eq byte 10 ≡ false → mid.sink ≡ old.sink → mid.number ≡ old.number
      → ((line : List ℕ) → old.line.items ≡ buffered limits line → mid.line.items ≡ buffered limits (line ++ byte ∷ []))
      → limits.most < length mid.line.items
      → EndsLine limits Takes IsAt goes_on mid new added → Feeds limits Takes IsAt false old new (byte ∷ []) added
  feeds_long IsAt true old mid new byte added ends other sink number keeps lt ended = let le = ended.1.short ends in absurd (omega (arith, le, lt))
  feeds_long IsAt false old mid new byte added ends other sink number keeps lt ended = λ first before text h.
      let g = h.goes in
      let line : mid.line.items ≡ buffered limits (g.line ++ byte ∷ []) = keeps g.line h.line in
      let full : limits.most < length (buffered limits (g.line ++ byte ∷ [])) = rw line at lt in
      let stop : (rest : List ℕ) → Takes (record { number = old.number; old = old.sink; line = g.line ++ byte ∷ rest; new = None; text = added }) = λ rest.
      let long = g.line ++ byte ∷ rest in
      let same : buffered limits long ≡ mid.line.items =
      ap (buffered limits) (sym (append_assoc g.line (byte ∷ []) rest)) ∙ buffered_full limits (g.line ++ byte ∷ []) rest full ∙ sym line in
      subst (λ (n : ℕ). Takes (record { number = n; old = old.sink; line = long; new = None; text = added })) number
      (subst (λ (s : S). Takes (record { number = mid.number; old = s; line = long; new = None; text = added })) sink (ended.0 long same)) in
      record {
        at = record {
          lines = g.lines;
          line = g.line ++ byte ∷ [];
          rest = [];
          are = ap (λ (bytes : List ℕ). bytes ++ byte ∷ []) g.are ∙ append_assoc g.lines g.line (byte ∷ [])
              ∙ ap (λ (bytes : List ℕ). g.lines ++ bytes) (sym (append-nil (g.line ++ byte ∷ [])));
          ended = g.ended;
          one = no_feed-more g.line byte g.one other;
          over = inr (over limits.most (filter limits.counts (g.line ++ byte ∷ [])) full);
          sink = old.sink;
          text = text;
          takes = held first before text old h;
          last = added;
          stops = λ more. (
            g.line ++ byte ∷ first_line (lines_of more),
            other_lines (lines_of more),
            lines_here first before g byte more
                ∙ ap (λ (ls : List (List ℕ)). lines_of g.lines ++ ls) (longer_line g.line byte more g.one other),
            subst (λ (n : ℕ). Takes (record { number = n; old = old.sink; line = g.line ++ byte ∷ first_line (lines_of more); new = None; text = added }))
                h.number (stop (first_line (lines_of more))),
          );
        };
        text_is = refl;
      }

  -- where it stops, whatever comes
  pub stops_whatever : (first : S) (bytes : List ℕ) (at : StopsAt limits Takes first bytes) (more : List ℕ)
      → TakesAll Takes (record { first = first; bytes = bytes ++ more; left = None; text = at.text ++ at.last })
  stops_whatever first bytes at more =
      let stop = at.stops more in
      let end : LinesEnd S = record { left = None; text = at.last } in
      rw stop.2 (takes_append Takes (record { number = 1; sink = first }) at.sink at.text (lines_of at.lines) (stop.0 ∷ stop.1) end at.takes
      (takes_stop Takes (1 + length (lines_of at.lines)) at.sink stop.0 at.last stop.1 stop.3))

  -- the end
  pub ends_here : (old : LineReader S) → old.begun ≡ false → EndsAll limits Takes true old old []
  ends_here old begun = λ first bytes text h.
      let g = h.goes in
      let none : g.line ≡ [] = none_has g.line (sym h.begun ∙ begun) in
      let all : bytes ≡ g.lines = g.are ∙ ap (λ (line : List ℕ). g.lines ++ line) none ∙ append-nil g.lines in
      rw (all, append-nil text) (held first bytes text old h)

  last : (line : List ℕ) → has_some line ≡ true → HasNoFeed line → lines_of line ≡ line ∷ []
  last [] some one = absurd (cc)
  last (x ∷ line) some one = last_line x line one

  last_takes : (goes_on : Bool) (n : ℕ) (s t : S) (line added : List ℕ)
      → Takes (record { number = n; old = s; line = line; new = some_if goes_on t; text = added })
      → TakesFrom Takes (record { number = n; sink = s }) (line ∷ []) (record { left = some_if goes_on t; text = added })
  last_takes true n s t line added f = takes_line Takes n s t line added f
  last_takes false n s t line added f = takes_stop Takes n s line added [] f

  pub ends_last : (IsAt : ℕ → S → Type 0) (goes_on : Bool) (old new : LineReader S) (added : List ℕ) → old.begun ≡ true
      → EndsLine limits Takes IsAt goes_on old new added → EndsAll limits Takes goes_on old new added
  ends_last IsAt goes_on old new added begun ended = λ first bytes text h.
      let g = h.goes in
      let all : lines_of bytes ≡ lines_of g.lines ++ g.line ∷ [] =
      ap lines_of g.are ∙ lines_of-append g.lines g.line g.ended
      ∙ ap (λ (ls : List (List ℕ)). lines_of g.lines ++ ls) (last g.line (sym h.begun ∙ begun) g.one) in
      rw all (behind first bytes text old (g.line ∷ []) (record { left = some_if goes_on new.sink; text = added }) h
      (last_takes goes_on old.number old.sink new.sink g.line added (ended.0 g.line (sym h.line))))

  -- nothing has come
  pub begins : (first : S) (r : LineReader S) → r.sink ≡ first → r.line.items ≡ [] → r.begun ≡ false → r.number ≡ 1 → Holds limits Takes first [] [] r
  begins first r sink line begun number = record {
    goes = record {
      lines = [];
      line = [];
      are = refl;
      ended = inl refl;
      one = tt;
      short = λ _. omega arith;
      sink = first;
      text = [];
      takes = (refl, refl);
    };
    sink = sym sink;
    same = refl;
    line = line ∙ sym (take_all (limits.most + 1) [] (omega arith));
    begun = begun;
    number = number;
  }

  -- ---- bytes, and then others

  pub feeds_none : (IsAt : ℕ → S → Type 0) (r : LineReader S) → IsAt r.number r.sink → Feeds limits Takes IsAt true r r [] []
  feeds_none IsAt r at = record {
    on = λ first before text h. rw (append-nil before, append-nil text) h;
    at = at;
    number = omega arith;
  }

  pub feeds_both : (IsAt : ℕ → S → Type 0) (goes_on : Bool) (old mid new : LineReader S) (xs ys a b : List ℕ)
      → Feeds limits Takes IsAt true old mid xs a → Feeds limits Takes IsAt goes_on mid new ys b
      → Feeds limits Takes IsAt goes_on old new (xs ++ ys) (a ++ b)
  feeds_both IsAt true old mid new xs ys a b f g = record {
    on = λ first before text h. rw (← append_assoc before xs ys, ← append_assoc text a b) (g.on first (before ++ xs) (text ++ a) (f.on first before text h));
    at = g.at;
    number = omega (arith, f.number, g.number, length-append xs ys);
  }
  feeds_both IsAt false old mid new xs ys a b f g = λ first before text h.
      rw (← append_assoc before xs ys, ← append_assoc text a b) (g first (before ++ xs) (text ++ a) (f.on first before text h))

  pub feeds_further : (IsAt : ℕ → S → Type 0) (old new : LineReader S) (xs ys a : List ℕ) → Feeds limits Takes IsAt false old new xs a
      → Feeds limits Takes IsAt false old new (xs ++ ys) a
  feeds_further IsAt old new xs ys a f = λ first before text h.
      let all = f first before text h in
      record {
        at = record {
          lines = all.at.lines;
          line = all.at.line;
          rest = all.at.rest ++ ys;
          are = sym (append_assoc before xs ys) ∙ ap (λ (bytes : List ℕ). bytes ++ ys) all.at.are
              ∙ append_assoc all.at.lines (all.at.line ++ all.at.rest) ys
              ∙ ap (λ (bytes : List ℕ). all.at.lines ++ bytes) (append_assoc all.at.line all.at.rest ys);
          ended = all.at.ended;
          one = all.at.one;
          over = over_further all.at.rest ys all.at.over;
          sink = all.at.sink;
          text = all.at.text;
          takes = all.at.takes;
          last = all.at.last;
          stops = λ more. subst (λ (bytes : List ℕ). (whole : List ℕ) × (others : List (List ℕ))
              × (lines_of bytes ≡ lines_of all.at.lines ++ whole ∷ others)
              × Takes (record { number = 1 + length (lines_of all.at.lines); old = all.at.sink; line = whole; new = None; text = all.at.last }))
              (further before xs ys more) (all.at.stops (ys ++ more));
        };
        text_is = all.text_is;
      }

-- a read that failed gave nothing
pub keeps_none : (a b : Option (List ℕ)) → Keeps a b → Consumes a b []
keeps_none None b keeps = tt
keeps_none (Some xs) None keeps = keeps
keeps_none (Some xs) (Some ys) keeps = sym keeps

-- what was read before, which is taken, and the last bytes
pub reads_lines : (most : ℕ) (Goes : List ℕ → Type 0) (old mid new : Option (List ℕ)) (read count : ℕ) (before bytes all : List ℕ) → Goes before
    → Consumes old mid before → read ≡ length before → Consumes mid new bytes → count ≡ length bytes → count ≤ most_piece → read + count ≤ most
    → all ≡ before ++ bytes → ReadsLines most Goes (record { old = old; new = new; bytes = all })
reads_lines most Goes old mid new read count before bytes all goes consumed is more counted few le are = record {
  read = rw are (consumes_both old mid new before bytes consumed more);
  before = before;
  last = bytes;
  are = are;
  goes = goes;
  piece = rw counted at few;
  most_read = omega (arith, is, counted, le);
}

-- the same where no more bytes came
pub reads_none : (most : ℕ) (Goes : List ℕ → Type 0) (old mid new : Option (List ℕ)) (read : ℕ) (before : List ℕ) → Goes before → Consumes old mid before
    → read ≡ length before → Consumes mid new [] → read ≤ most → ReadsLines most Goes (record { old = old; new = new; bytes = before })
reads_none most Goes old mid new read before goes consumed is more le =
    reads_lines most Goes old mid new read 0 before [] before goes consumed is more refl (omega arith) (omega (arith, le)) (sym (append-nil before))

-- a read into the room that is asked for
module _ (most read n count : ℕ) (piece room : List ℕ) (is : n ≡ room_behind most read) (same : length room ≡ length (take n piece))
    (le : count ≤ length room) where
  few_read : count ≤ most_piece
  few_read = omega (arith, is, same, le, length-take n piece)

  -- what was read before, which is taken, and the bytes that it gave
  pub reads_piece : (Goes : List ℕ → Type 0) (old mid new : Option (List ℕ)) (before all : List ℕ) → Goes before → Consumes old mid before
      → read ≡ length before → Consumes mid new (take count room) → read + count ≤ most → all ≡ before ++ take count room
      → ReadsLines most Goes (record { old = old; new = new; bytes = all })
  reads_piece Goes old mid new before all goes consumed counted more within are =
      reads_lines most Goes old mid new read count before (take count room) all goes consumed counted more (sym (length-take-le count room le)) few_read
      within are

  -- a byte more than there may be
  pub reads_over : (Goes : List ℕ → Type 0) (old mid new : Option (List ℕ)) (before : List ℕ) → Goes before → Consumes old mid before
      → read ≡ length before → Consumes mid new (take count room) → read ≤ most → most < read + count → ReadsOneMore most Goes old new
  reads_over Goes old mid new before goes consumed counted more within over = record {
    bytes = before;
    more = take count room;
    read = consumes_both old mid new before (take count room) consumed more;
    all = omega (arith, is, same, le, length-take n piece, counted, within, over);
    one = omega (arith, is, same, le, length-take n piece, within, over, length-take-le count room le);
    goes = goes;
  }
