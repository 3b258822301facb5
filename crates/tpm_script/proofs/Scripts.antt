-- What comes of the lines of a script.
use Rattle.std.proofs.Common.{◌≡◌, ◌≢◌, ℕ, ◌+◌, ◌<◌, ◌≤◌, List, [], ◌∷◌, ◌++◌, length, map, Option, Some, None, refl, sym, ap, ◌∙◌}
use Rattle.std.proofs.Common.{Bool, true, false, inl, inr, arith, append_assoc, length-append, length-take-le, subst, take}
use Rattle.std.proofs.lemmas.Bool.{cases_lt, lt-ltb}
use Rattle.std.proofs.lemmas.List.{append-nil, map-append, take_all}
use Rattle.std.specs.Prelude.{codes, filter}
use Rattle.std.specs.List.{AllByRecursion}
use Rattle.tpm_model.specs.Steps.{History, Origin, PowerCycle}
use Rattle.tpm_model.specs.Answers.{answer, next}
use Rattle.tpm_model.specs.Runs.{Stimulus, Given, Cycled, after, run}
use Rattle.tpm_script.specs.declared.script.Run.{Run}
use Rattle.tpm_script.specs.Script.{ScriptLine, Blank, Power, Command, NotHexadecimal, Script, line_of, nonce_of}
use Rattle.tpm_script.specs.Script.{AreAnswered, IsRefusedIn, IsRefusedLine, IsUnrefused, stimuli_from, script_from}
use Rattle.tpm_script.specs.Script.{script, stimuli_text, refused_text, script_text, status_for, ReadsNoFurther}
use Rattle.tpm_script.specs.Script.{ReadsScript, ReadsTooMuch, most_digits}
use Rattle.tpm_script.specs.inner.Progress.{Runs, RunsTo, StandsAt, digits, next_command}
use Rattle.tpm_output.specs.declared.status.Status.TheVariants.{Done, Refused}
use Rattle.tpm_output.specs.declared.status.Status.{Status}
use Rattle.tpm_output.specs.Text.{bytes_line, line}
use Rattle.tpm_output.specs.InputLines.{lines_of, most_bytes}
use Rattle.tpm_output.proofs.InputLines.{ended_line, lines_of-append}
use Rattle.tpm_output.specs.LineSinks.{GoesOn, IsWhole, OnTrue, Reading, ReadsLines, ReadsOneMore, LineStep, LinesEnd}
use Rattle.tpm_output.specs.LineSinks.{LinesStart, StopsAt, TakesAll, TakesFrom, TakesBuffered, buffered, some_if}

-- ---- the script of some lines

-- these stimuli, and then a script
abbrev behind : List Stimulus → Script → Script
behind es s = record { stimuli = es ++ s.stimuli; refused = s.refused }

script_from-more : (n k : ℕ) (l : ScriptLine) (ls : List ScriptLine) → l ≢ NotHexadecimal
    → script_from n k (l ∷ ls) ≡ behind (stimuli_from k (l ∷ [])) (script_from (n + 1) (next_command k l) ls)
script_from-more n k NotHexadecimal ls f = absurd (f refl)
script_from-more n k _ ls f = refl

script_from-refused : (n k : ℕ) (l : ScriptLine) (ls : List ScriptLine) → l ≡ NotHexadecimal
    → script_from n k (l ∷ ls) ≡ record { stimuli = []; refused = Some n }
script_from-refused n k l ls f = rw f refl

-- What is behind a line that is refused makes no difference.
script_from-cut : (n k : ℕ) (xs others : List ScriptLine) → script_from n k (xs ++ NotHexadecimal ∷ others) ≡ script_from n k (xs ++ NotHexadecimal ∷ [])
script_from-cut n k [] others = refl
script_from-cut n k (Blank ∷ xs) others = script_from-cut (n + 1) k xs others
script_from-cut n k (Power ∷ xs) others = ap (behind (Cycled ∷ [])) (script_from-cut (n + 1) k xs others)
script_from-cut n k (Command bytes ∷ xs) others = ap (behind (Given bytes (nonce_of k) ∷ [])) (script_from-cut (n + 1) (k + 1) xs others)
script_from-cut n k (NotHexadecimal ∷ xs) others = refl

-- ---- texts

stimuli_text-append : (o : Origin) (h : History) (es fs : List Stimulus)
    → stimuli_text (es ++ fs) (run o h (es ++ fs)) ≡ stimuli_text es (run o h es) ++ stimuli_text fs (run o (after o h es) fs)
stimuli_text-append o h [] fs = refl
stimuli_text-append o h (Given bytes nonce ∷ es) fs =
    ap (λ (text : List ℕ). bytes_line (answer o h bytes nonce) ++ text) (stimuli_text-append o (next o h bytes nonce) es fs)
    ∙ sym (append_assoc (bytes_line (answer o h bytes nonce)) _ _)
stimuli_text-append o h (Cycled ∷ es) fs = ap (λ (text : List ℕ). line (codes "power" ∷ []) ++ text) (stimuli_text-append o (PowerCycle ∷ h) es fs)

script_text-append : (o : Origin) (h : History) (es : List Stimulus) (s : Script)
    → script_text o h (record { stimuli = es; refused = None }) ++ script_text o (after o h es) s ≡ script_text o h (behind es s)
script_text-append o h es s =
    ap (λ (text : List ℕ). text ++ script_text o (after o h es) s) (append-nil (stimuli_text es (run o h es)))
    ∙ sym (append_assoc (stimuli_text es (run o h es)) (stimuli_text s.stimuli (run o (after o h es) s.stimuli)) (refused_text s.refused))
    ∙ ap (λ (text : List ℕ). text ++ refused_text s.refused) (sym (stimuli_text-append o h es s.stimuli))

-- ---- lines that were run

abbrev status_of : Option Run → Status
status_of (Some run) = Done
status_of None = Refused

-- what is answered for a script, and what is printed of it
pub record Outcome (r : Run) (left : Option Run) (text : List ℕ) (s : Script) : Type 0 where
  pub status : status_of left ≡ status_for s.refused
  pub is : (o : Origin) (h : History) → StandsAt o h r.device → text ≡ script_text o h s

runs : (start : LinesStart Run) (lines : List (List ℕ)) (end : LinesEnd Run) → TakesFrom Runs start lines end
    → Outcome start.sink end.left end.text (script_from start.number start.sink.command (map line_of lines))
runs start [] end f = record { status = rw f.0 refl; is = λ o h stands. f.1 }
runs start (line ∷ others) end (inl f) =
    let n = start.number in
    let r = start.sink in
    let l = line_of line in
    let es = stimuli_from r.command (l ∷ []) in
    let rest = runs (record { number = n + 1; sink = f.0 }) others (record { left = end.left; text = f.2 }) f.4 in
    let s : Script = script_from (n + 1) f.0.command (map line_of others) in
    let whole : script_from n r.command (l ∷ map line_of others) ≡ behind es s =
    script_from-more n r.command l (map line_of others) f.3.accepted
    ∙ ap (λ (k : ℕ). behind es (script_from (n + 1) k (map line_of others))) (sym f.3.command) in
    record {
      status = rest.status ∙ ap (λ (t : Script). status_for t.refused) (sym whole);
      is = λ o h stands.
          let one = f.3.performs o h stands in
          f.5
          ∙ ap (λ (t : List ℕ). t ++ f.2) one.text
          ∙ ap (λ (t : List ℕ). script_text o h (record { stimuli = es; refused = None }) ++ t) (rest.is o (after o h es) one.stands)
          ∙ script_text-append o h es s
          ∙ ap (script_text o h) (sym whole);
    }
runs start (line ∷ others) end (inr f) =
    let whole = script_from-refused start.number start.sink.command (line_of line) (map line_of others) f.1.0 in
    record {
      status = ap status_of f.0 ∙ ap (λ (t : Script). status_for t.refused) (sym whole);
      is = λ o h stands. f.1.1 ∙ ap (script_text o h) (sym whole);
    }

pub outcome : (r : Reading Run) → r.first.command ≡ 1 → TakesAll Runs r → Outcome r.first r.left r.text (script r.bytes)
outcome r is f =
    subst (λ (k : ℕ). Outcome r.first r.left r.text (script_from 1 k (map line_of (lines_of r.bytes)))) is
    (runs (record { number = 1; sink = r.first }) (lines_of r.bytes) (record { left = r.left; text = r.text }) f)

-- ---- what is buffered of a line

all_count : (xs : List ℕ) → filter (λ _. true) xs ≡ xs
all_count [] = refl
all_count (x ∷ xs) = ap (λ (ys : List ℕ). x ∷ ys) (all_count xs)

too_long : (text : List ℕ) → most_digits < length text → line_of text ≡ NotHexadecimal
too_long text lt = rw (lt-ltb most_digits (length text) lt) refl

line_of-buffered : (line : List ℕ) → line_of (buffered digits line) ≡ line_of line
line_of-buffered line = rw all_count (elim (cases_lt most_digits (length line)) [
  | inl many ↦ too_long (take (most_digits + 1) line) (omega (arith, length-take-le (most_digits + 1) line (omega (arith, many)))) ∙ sym (too_long line many)
  | inr few ↦ ap line_of (take_all (most_digits + 1) line (omega (arith, few)))
])

-- The bytes of the line make no difference to what comes of what was read of it.
runs_to : (l : ScriptLine) (step : LineStep Run) (line : List ℕ) (new : Option Run) → RunsTo l step new → RunsTo l (record step { line = line }) new
runs_to l step line (Some new) f = f
runs_to l step line None f = f

pub takes_buffered : (step : LineStep Run) → Runs step → TakesBuffered digits Runs step
takes_buffered step f = λ line same.
    runs_to (line_of line) step line step.new (subst (λ (l : ScriptLine). RunsTo l step step.new) (ap line_of (sym same) ∙ line_of-buffered line) f)

pub short : (goes_on : Bool) (n : ℕ) (old new : Run) (line text : List ℕ)
    → Runs (record { number = n; old = old; line = line; new = some_if goes_on new; text = text })
    → OnTrue goes_on (digits.long_ends ≡ true → length line ≤ most_digits)
short true n old new line text f = λ _. elim (cases_lt most_digits (length line)) [
  | inl many ↦ absurd (f.accepted (too_long line many))
  | inr few ↦ few
]
short false n old new line text f = tt

-- ---- lines that are accepted

accepts : (start : LinesStart Run) (lines : List (List ℕ)) (new : Run) (text : List ℕ)
    → TakesFrom Runs start lines (record { left = Some new; text = text })
    → AllByRecursion (λ (line : List ℕ). line_of line ≢ NotHexadecimal) lines
accepts start [] new text f = tt
accepts start (line ∷ others) new text (inl f) =
    (f.3.accepted, accepts (record { number = start.number + 1; sink = f.0 }) others new f.2 f.4)
accepts start (line ∷ others) new text (inr f) = let z : ⊥ = cc (f.0) in absurd z

accepts_all : (first new : Run) (bytes text : List ℕ) → TakesAll Runs (record { first = first; bytes = bytes; left = Some new; text = text })
    → AllByRecursion (λ (line : List ℕ). line_of line ≢ NotHexadecimal) (lines_of bytes)
accepts_all first new bytes text = accepts (record { number = 1; sink = first }) (lines_of bytes) new text

same_next : (xs : List (List ℕ)) (x y : List ℕ) (ys zs : List (List ℕ)) → xs ++ x ∷ ys ≡ xs ++ y ∷ zs → x ≡ y
same_next [] x y ys zs e = cc (e)
same_next (w ∷ xs) x y ys zs e = let f : xs ++ x ∷ ys ≡ xs ++ y ∷ zs = cc (e) in same_next xs x y ys zs f

module _ (first : Run) where
  pub unrefused : (bytes : List ℕ) → GoesOn digits Runs first bytes → IsUnrefused bytes
  unrefused bytes g = record {
    lines = g.lines;
    line = g.line;
    are = g.are;
    ended = g.ended;
    accepted = accepts_all first g.sink g.lines g.text g.takes;
    one = g.one;
    most = rw all_count at (g.short refl);
  }

  pub answered : (bytes : List ℕ) (g : GoesOn digits Runs first bytes) → AreAnswered g.lines g.line
  answered bytes g = record { ended = g.ended; accepted = accepts_all first g.sink g.lines g.text g.takes; one = g.one }

  -- ---- the input

  pub no_further : (old new : Option (List ℕ)) (bytes : List ℕ)
      → ReadsLines most_bytes (GoesOn digits Runs first) (record { old = old; new = new; bytes = bytes }) → ReadsNoFurther old new
  no_further old new bytes f = record {
    before = f.before;
    last = f.last;
    read = rw f.are at f.read;
    unrefused = unrefused f.before f.goes;
    piece = f.piece;
    most = f.most_read;
  }

  pub too_much : (old new : Option (List ℕ)) → ReadsOneMore most_bytes (GoesOn digits Runs first) old new → ReadsTooMuch old new
  too_much old new f = record {
    bytes = f.bytes;
    more = f.more;
    read = f.read;
    most = f.all;
    one = f.one;
    unrefused = unrefused f.bytes f.goes;
  }

  -- the line that ended is the one that is refused
  refused_there : (bytes : List ℕ) (at : StopsAt digits Runs first bytes) (more : List ℕ) → at.rest ≡ 10 ∷ more → line_of at.line ≡ NotHexadecimal
  refused_there bytes at more is =
      let stop = at.stops [] in
      let here : lines_of (bytes ++ []) ≡ lines_of at.lines ++ at.line ∷ lines_of more =
      ap lines_of (append-nil bytes ∙ at.are) ∙ lines_of-append at.lines (at.line ++ at.rest) at.ended
      ∙ ap (λ (rest : List ℕ). lines_of at.lines ++ lines_of (at.line ++ rest)) is
      ∙ ap (λ (ls : List (List ℕ)). lines_of at.lines ++ ls) (ended_line at.line more at.one) in
      rw (← same_next (lines_of at.lines) stop.0 at.line stop.1 (lines_of more) (sym stop.2 ∙ here)) stop.3.0

  refused_line : (bytes : List ℕ) (at : StopsAt digits Runs first bytes) → IsRefusedLine at.line at.rest
  refused_line bytes at = elim at.over [
    | inl more ↦ inl (refused_there bytes at more.0 more.1, more.0, more.1)
    | inr long ↦ inr (rw all_count at long)
  ]

  refused_in : (bytes : List ℕ) (at : StopsAt digits Runs first bytes) → IsRefusedIn bytes
  refused_in bytes at = record {
    lines = at.lines;
    line = at.line;
    rest = at.rest;
    are = at.are;
    ended = at.ended;
    accepted = accepts_all first at.sink at.lines at.text at.takes;
    one = at.one;
    refused = refused_line bytes at;
  }

  whole_at : (bytes : List ℕ) (at : StopsAt digits Runs first bytes) (more : List ℕ)
      → script (bytes ++ more) ≡ script_from 1 1 (map line_of (lines_of at.lines) ++ NotHexadecimal ∷ [])
  whole_at bytes at more =
      let stop = at.stops more in
      ap (λ (ls : List (List ℕ)). script_from 1 1 (map line_of ls)) stop.2
      ∙ ap (script_from 1 1) (map-append line_of (lines_of at.lines) (stop.0 ∷ stop.1)
      ∙ ap (λ (l : ScriptLine). map line_of (lines_of at.lines) ++ l ∷ map line_of stop.1) stop.3.0)
      ∙ script_from-cut 1 1 (map line_of (lines_of at.lines)) (map line_of stop.1)

  pub reads_script : (old new : Option (List ℕ)) (r : Reading Run) → r.first ≡ first
      → ReadsLines most_bytes (GoesOn digits Runs first) (record { old = old; new = new; bytes = r.bytes })
      → IsWhole digits Runs new r → ReadsScript old new r.bytes
  reads_script old new r is f whole = record {
    read = f.read;
    most = omega (arith, ap length f.are, length-append f.before f.last, f.most_read);
    whole = elim whole.1 [
      | inl end ↦ inl end
      | inr stops ↦
          let at = subst (λ (s : Run). StopsAt digits Runs s r.bytes) is stops.at in
          inr (
            refused_in r.bytes at,
            record { before = f.before; last = f.last; are = f.are; unrefused = unrefused f.before f.goes; most = f.piece },
            λ more. whole_at r.bytes at more ∙ sym (ap script (sym (append-nil r.bytes)) ∙ whole_at r.bytes at []),
          )
    ];
  }
