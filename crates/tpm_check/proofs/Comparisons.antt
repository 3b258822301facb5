-- Lists of registers whose lines are compared one after the other.
use Rattle.std.proofs.Common.{◌≡◌, ℕ, Bool, true, ◌+◌, ◌<◌, ◌≤◌, false, List, [], ◌∷◌, ◌++◌, length, take, Option, Some, None}
use Rattle.std.proofs.Common.{Bor, append_assoc, option_map, refl, sym, ap, subst, ◌∙◌, inl, inr, arith, length-append, length-take-le}
use Rattle.std.proofs.lemmas.List.{take_all}
use Rattle.std.proofs.lemmas.Bool.{cases_lt, lt-ltb}
use Rattle.std.specs.Prelude.{filter, ◌≢◌}
use Rattle.std.specs.List.{AllByRecursion}
use Rattle.std.specs.Io.KnownBytes.{Appends}
use Rattle.tpm_check.specs.declared.beside.Beside.{Beside as InCode}
use Rattle.tpm_check.specs.declared.compared.Comparing.{Comparing}
use Rattle.tpm_lists.specs.declared.list_lines.Heading.TheVariants.{NoBank}
use Rattle.tpm_lists.specs.declared.list_lines.Heading.{Heading}
use Rattle.tpm_lists.specs.ListLines.{ListLine, States, Heads, Passes, Wrong, heading_behind, line_under, lines_under, most_line}
use Rattle.tpm_check.specs.Compare.{Beside, Comparison, any_behind, comparison, comparison_from, comparison_of, is_value, no_register_text, status_if}
use Rattle.tpm_check.specs.Compare.{IsStated, ReadsList, ReadsTooMuchList}
use Rattle.tpm_check.specs.inner.Comparing.{Compares, finished, line_behind, line_text, list_line, stated_behind, stated_text}
use Rattle.tpm_check.specs.inner.Told.{told}
use Rattle.tpm_output.specs.declared.status.Status.TheVariants.{Done, Refused}
use Rattle.tpm_output.specs.declared.status.Status.{Status}
use Rattle.tpm_output.specs.InputLines.{lines_of, most_bytes}
use Rattle.tpm_output.specs.LineSinks.{GoesOn, IsWhole, OnTrue, ReadsLines, ReadsOneMore, LineStep, LinesEnd, LinesStart}
use Rattle.tpm_output.specs.LineSinks.{StopsAt, TakesAll, TakesFrom, TakesBuffered, buffered, some_if}
use Rattle.tpm_output.specs.Status.{both}
use Rattle.tpm_output.proofs.LineReading.{stops_whatever}

-- ---- statuses

both_twice : (status next : Status) (o : Option Status) → option_map (both status) (option_map (both next) o) ≡ option_map (both (both status next)) o
both_twice status next None = refl
both_twice Done next (Some other) = refl
both_twice Refused next (Some other) = refl

both_none : (o : Option Status) → option_map (both Done) o ≡ o
both_none None = refl
both_none (Some status) = refl

-- ---- a line

same_some : {A : Type 0} (x y : A) → Some x ≡ Some y → x ≡ y
same_some x y e = cc (e)

not_none : {A : Type 0} (x : A) → Some x ≡ None → ⊥
not_none x e = let z : ⊥ = cc (e) in z

-- A line is right where the comparison goes on behind it,
right_line : (c mid : Comparing) (l : ListLine) → Some mid ≡ line_behind c l → l ≢ Wrong
right_line c mid l is = λ e. not_none mid (is ∙ ap (line_behind c) e)

-- and else wrong.
wrong_line : (c : Comparing) (l : ListLine) → None ≡ line_behind c l → l ≡ Wrong
wrong_line c (States s) is = absurd (not_none (stated_behind c s) (sym is))
wrong_line c (Heads heading) is = absurd (not_none (record c { heading = heading }) (sym is))
wrong_line c Passes is = absurd (not_none c (sym is))
wrong_line c Wrong is = refl

heading_is : (c mid : Comparing) (l : ListLine) → Some mid ≡ line_behind c l → mid.heading ≡ heading_behind c.heading l
heading_is c mid (States s) is = ap (λ (k : Comparing). k.heading) (same_some mid (stated_behind c s) is)
heading_is c mid (Heads heading) is = ap (λ (k : Comparing). k.heading) (same_some mid (record c { heading = heading }) is)
heading_is c mid Passes is = ap (λ (k : Comparing). k.heading) (same_some mid c is)
heading_is c mid Wrong is = absurd (not_none mid is)

-- ---- what is buffered of a line

all_count : (xs : List ℕ) → filter (λ _. true) xs ≡ xs
all_count [] = refl
all_count (x ∷ xs) = ap (λ (ys : List ℕ). x ∷ ys) (all_count xs)

wrong-long : (heading : Heading) (text : List ℕ) → most_line < length text → line_under heading text ≡ Wrong
unfolding line_under
wrong-long heading text lt = rw (lt-ltb most_line (length text) lt) refl

line_under-buffered : (heading : Heading) (line : List ℕ) → line_under heading (buffered list_line line) ≡ line_under heading line
line_under-buffered heading line = rw all_count (elim (cases_lt most_line (length line)) [
  | inl many ↦
      wrong-long heading (take (most_line + 1) line) (omega (arith, length-take-le (most_line + 1) line (omega (arith, many))))
      ∙ sym (wrong-long heading line many)
  | inr few ↦ ap (line_under heading) (take_all (most_line + 1) line (omega (arith, few)))
])

pub takes_buffered : (step : LineStep Comparing) → Compares step → TakesBuffered list_line Compares step
takes_buffered step f = λ line same.
    let is : line_under step.old.heading step.line ≡ line_under step.old.heading line =
    ap (line_under step.old.heading) (sym same) ∙ line_under-buffered step.old.heading line in
    (f.0 ∙ ap (line_behind step.old) is, f.1 ∙ ap (line_text (told step.old.found.now) step.number) is)

pub anywhere : (goes_on : Bool) → OnTrue goes_on (Unit {0})
anywhere true = tt
anywhere false = tt

pub short : (goes_on : Bool) (old new : Comparing) (line : List ℕ) → some_if goes_on new ≡ line_behind old (line_under old.heading line)
    → OnTrue goes_on (list_line.long_ends ≡ true → length line ≤ most_line)
short true old new line is = λ _. elim (cases_lt most_line (length line)) [
  | inl many ↦ absurd (right_line old new (line_under old.heading line) is (wrong-long old.heading line many))
  | inr few ↦ few
]
short false old new line is = tt

-- ---- lines that were compared

-- this text, and then a comparison
abbrev behind : List ℕ → Comparison → Comparison
behind text c = record { text = text ++ c.text; status = c.status }

-- a comparison behind lines of this status
abbrev with_status : Status → Comparison → Comparison
with_status status c = record { text = c.text; status = option_map (both status) c.status }

-- what is printed of lines from here, of which the first has this number
abbrev from_here : ℕ → Comparing → List (List ℕ) → Comparison
from_here n c lines = with_status c.status (comparison_from (told c.found.now) n c.any (lines_under c.heading lines))

-- of a line that says this, and those behind it
abbrev from_line : ℕ → Comparing → ListLine → List (List ℕ) → Comparison
from_line n c l others =
    with_status c.status (comparison_of (told c.found.now) n l
    (comparison_from (told c.found.now) (n + 1) (any_behind c.any l) (lines_under (heading_behind c.heading l) others)))

goes_line : (n : ℕ) (c mid : Comparing) (l : ListLine) (one : List ℕ) (others : List (List ℕ)) → Some mid ≡ line_behind c l
    → one ≡ line_text (told c.found.now) n l → behind one (from_here (n + 1) mid others) ≡ from_line n c l others
goes_line n c mid (States s) one others is said =
    let b = told c.found.now in
    let rest = comparison_from b (n + 1) true (lines_under c.heading others) in
    ap (λ (text : List ℕ). behind text (from_here (n + 1) mid others)) said
    ∙ ap (λ (k : Comparing). behind (stated_text b s) (from_here (n + 1) k others)) (same_some mid (stated_behind c s) is)
    ∙ ap (λ (o : Option Status). record { text = stated_text b s ++ rest.text; status = o })
    (sym (both_twice c.status (status_if (is_value b.value s)) rest.status))
goes_line n c mid (Heads heading) one others is said =
    ap (λ (text : List ℕ). behind text (from_here (n + 1) mid others)) said
    ∙ ap (λ (k : Comparing). behind [] (from_here (n + 1) k others)) (same_some mid (record c { heading = heading }) is)
goes_line n c mid Passes one others is said =
    ap (λ (text : List ℕ). behind text (from_here (n + 1) mid others)) said
    ∙ ap (λ (k : Comparing). behind [] (from_here (n + 1) k others)) (same_some mid c is)
goes_line n c mid Wrong one others is said = absurd (not_none mid is)

-- a line's text, and the lines behind it
finished_behind : (left : Option Comparing) (one text : List ℕ) → finished left (one ++ text) ≡ behind one (finished left text)
finished_behind None one text = refl
finished_behind (Some c) one text =
    ap (λ (all : List ℕ). record { text = all; status = Some (both c.status (status_if c.any)) })
    (append_assoc one text (no_register_text c.found.now.form c.any))

stops_line : (n : ℕ) (c : Comparing) (l : ListLine) (text : List ℕ) (others : List (List ℕ)) → None ≡ line_behind c l
    → text ≡ line_text (told c.found.now) n l → finished None text ≡ from_line n c l others
stops_line n c l text others is said =
    let wrong : l ≡ Wrong = wrong_line c l is in
    ap (finished None) (said ∙ ap (line_text (told c.found.now) n) wrong) ∙ ap (λ (k : ListLine). from_line n c k others) (sym wrong)

outcome_from : (start : LinesStart Comparing) (lines : List (List ℕ)) (end : LinesEnd Comparing) → TakesFrom Compares start lines end
    → finished end.left end.text ≡ from_here start.number start.sink lines
outcome_from start [] end f = ap (λ (o : Option Comparing). finished o end.text) f.0 ∙ ap (finished (Some start.sink)) f.1
outcome_from start (line ∷ others) end (inl f) =
    let n = start.number in
    let c = start.sink in
    ap (finished end.left) f.5
    ∙ finished_behind end.left f.1 f.2
    ∙ ap (behind f.1) (outcome_from (record { number = n + 1; sink = f.0 }) others (record { left = end.left; text = f.2 }) f.4)
    ∙ goes_line n c f.0 (line_under c.heading line) f.1 others f.3.0 f.3.1
outcome_from start (line ∷ others) end (inr f) =
    let c = start.sink in
    ap (λ (o : Option Comparing). finished o end.text) f.0 ∙ stops_line start.number c (line_under c.heading line) end.text others f.1.0 f.1.1

abbrev AreRight : List ListLine → Type 0
AreRight lines = AllByRecursion (λ (line : ListLine). line ≢ Wrong) lines

right_lines : (start : LinesStart Comparing) (lines : List (List ℕ)) (new : Comparing) (text : List ℕ)
    → TakesFrom Compares start lines (record { left = Some new; text = text }) → AreRight (lines_under start.sink.heading lines)
right_lines start [] new text f = tt
right_lines start (line ∷ others) new text (inl f) =
    let c = start.sink in
    let l = line_under c.heading line in (
      right_line c f.0 l f.3.0,
      subst (λ (heading : Heading). AreRight (lines_under heading others)) (heading_is c f.0 l f.3.0)
          (right_lines (record { number = start.number + 1; sink = f.0 }) others new f.2 f.4),
    )
right_lines start (line ∷ others) new text (inr f) = absurd (not_none new f.0)

-- ---- the input

-- where no line was compared
abbrev pub first_of : Bor InCode → Comparing
first_of found = record { found = found; heading = NoBank; status = Done; any = false }

abbrev pub Concludes : Beside → (old new a c : Option (List ℕ)) → Option Comparing → Type 0
Concludes b old new a c left =
    (bytes text : List ℕ) × ReadsList b old new bytes × (finished left text ≡ comparison b bytes) × Appends a c text

module _ (found : Bor InCode) where
  -- what is printed of a whole list
  outcome : (bytes : List ℕ) (left : Option Comparing) (text : List ℕ)
      → TakesAll Compares (record { first = first_of found; bytes = bytes; left = left; text = text })
      → finished left text ≡ comparison (told found.now) bytes
  outcome bytes left text f =
      let all = comparison (told found.now) bytes in
      outcome_from (record { number = 1; sink = first_of found }) (lines_of bytes) (record { left = left; text = text }) f
      ∙ ap (λ (o : Option Status). record { text = all.text; status = o }) (both_none all.status)

  -- no line is wrong of what was taken
  stated : (bytes : List ℕ) → GoesOn list_line Compares (first_of found) bytes → IsStated bytes
  stated bytes g = record {
    lines = g.lines;
    line = g.line;
    are = g.are;
    ended = g.ended;
    registers = right_lines (record { number = 1; sink = first_of found }) (lines_of g.lines) g.sink g.text g.takes;
    short = (g.one, subst (λ (line : List ℕ). length line ≤ most_line) (all_count g.line) (g.short refl));
  }

  pub reads_too_much : (old new : Option (List ℕ)) → ReadsOneMore most_bytes (GoesOn list_line Compares (first_of found)) old new
      → ReadsTooMuchList old new
  reads_too_much old new f = record { bytes = f.bytes; more = f.more; read = f.read; most = f.all; one = f.one; stated = stated f.bytes f.goes }

  -- where it stops, whatever comes
  stops_further : (bytes : List ℕ) (at : StopsAt list_line Compares (first_of found) bytes) (more : List ℕ)
      → finished None (at.text ++ at.last) ≡ comparison (told found.now) (bytes ++ more)
  stops_further bytes at more =
      outcome (bytes ++ more) None (at.text ++ at.last) (stops_whatever list_line Compares (first_of found) bytes at more)

  reads_list : (old new : Option (List ℕ)) (bytes text : List ℕ) (left : Option Comparing)
      → ReadsLines most_bytes (GoesOn list_line Compares (first_of found)) (record { old = old; new = new; bytes = bytes })
      → IsWhole list_line Compares new (record { first = first_of found; bytes = bytes; left = left; text = text })
      → ReadsList (told found.now) old new bytes
  reads_list old new bytes text left f whole = record {
    read = f.read;
    most = omega (arith, ap length f.are, length-append f.before f.last, f.most_read);
    whole = elim whole.1 [
      | inl end ↦ inl end
      | inr stops ↦
          let all : finished None (stops.at.text ++ stops.at.last) ≡ comparison (told found.now) bytes =
          ap (λ (o : Option Comparing). finished o (stops.at.text ++ stops.at.last)) (sym stops.none)
          ∙ ap (finished left) (sym stops.text)
          ∙ outcome bytes left text whole.0 in
          inr (
            ap (λ (c : Comparison). c.status) (sym all),
            record { before = f.before; last = f.last; are = f.are; stated = stated f.before f.goes; most = f.piece },
            λ more. sym (stops_further bytes stops.at more) ∙ all,
          )
    ];
  }

  pub answers : (old new a c : Option (List ℕ)) (bytes text : List ℕ) (left : Option Comparing)
      → ReadsLines most_bytes (GoesOn list_line Compares (first_of found)) (record { old = old; new = new; bytes = bytes })
      → IsWhole list_line Compares new (record { first = first_of found; bytes = bytes; left = left; text = text })
      → Appends a c text → Concludes (told found.now) old new a c left
  answers old new a c bytes text left f whole added =
      (bytes, text, reads_list old new bytes text left f whole, outcome bytes left text whole.0, added)
