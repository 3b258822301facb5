-- Captures that are told one part after the other.
use Rattle.std.proofs.Common.{◌≡◌, ℕ, ◌+◌, ◌<◌, ◌≤◌, List, [], ◌∷◌, ◌++◌, fold, length, map, take, Option, Some, None}
use Rattle.std.proofs.Common.{refl, sym, ap, subst, ◌∙◌, inl, inr, arith, append_assoc, length-take-le}
use Rattle.std.proofs.lemmas.Bool.{cases_lt, lt-ltb}
use Rattle.std.proofs.lemmas.List.{append-nil, take_all}
use Rattle.tpm_output.specs.declared.status.Status.TheVariants.{Done, Refused}
use Rattle.tpm_output.specs.declared.status.Status.{Status}
use Rattle.tpm_output.specs.InputLines.{lines_of}
use Rattle.tpm_output.specs.LineSinks.{GoesOn, IsWhole, ReadsLines, TakesAll, TakesFrom, TakesBuffered}
use Rattle.tpm_output.specs.Status.{both}
use Rattle.tpm_show.specs.declared.telling.Telling.{Telling}
use Rattle.tpm_show.specs.declared.capture.Capture.{Capture}
use Rattle.tpm_show.specs.Capture.{CaptureLine, CapturePlace, start, behind, told_in, line_of, most_line, most_bytes, without_blanks}
use Rattle.tpm_show.specs.Capture.{TellsEach, TellsLine, TellsFrom, TellsCapture, TellsEnded, ReadsAll}
use Rattle.tpm_show.specs.inner.Capturing.{place, capture_line, TellsNext, TellsStep}
use Rattle.tpm_show.specs.Capture as specs

-- ---- statuses

pub both_assoc : (a b c : Status) → both (both a b) c ≡ both a (both b c)
both_assoc Done b c = refl
both_assoc Refused b c = refl

pub both_done : (a : Status) → both a Done ≡ a
both_done Done = refl
both_done Refused = refl

-- ---- what is told one after the other

module _ {A : Type 0} (next : CapturePlace → A → CapturePlace) (Tells : CapturePlace → A → Status → List ℕ → Type 0) where
  pub tells_both : (p : CapturePlace) (xs ys : List A) (s t : Status) (a b : List ℕ) → TellsEach next Tells p xs s a
      → TellsEach next Tells (fold next p xs) ys t b → TellsEach next Tells p (xs ++ ys) (both s t) (a ++ b)
  tells_both p [] ys s t a b f g = rw (f.0, f.1) g
  tells_both p (x ∷ xs) ys s t a b f g = (
    f.0,
    f.1,
    both f.2 t,
    f.3 ++ b,
    f.4,
    tells_both (next p x) xs ys f.2 t f.3 b f.5 g,
    rw f.6 (both_assoc f.0 f.2 t),
    rw f.7 (append_assoc f.1 f.3 b),
  )

  pub tells_one : (p : CapturePlace) (x : A) (s : Status) (a : List ℕ) → Tells p x s a → TellsEach next Tells p (x ∷ []) s a
  tells_one p x s a f = (s, a, Done, [], f, (refl, refl), sym (both_done s), sym (append-nil a))

-- ---- a line of which no more is buffered than one byte too many

told_long : (first : ℕ) (rest others : List ℕ) → most_line < length (first ∷ rest) → most_line < length (first ∷ others)
    → told_in (first ∷ rest) ≡ told_in (first ∷ others)
told_long first rest others f g = rw (lt-ltb most_line (length (first ∷ rest)) f, lt-ltb most_line (length (first ∷ others)) g) refl

-- Of a line that has one byte too many, more makes no difference.
told_buffered : (buffered : List ℕ) → told_in (take (most_line + 1) buffered) ≡ told_in buffered
told_buffered [] = refl
told_buffered (first ∷ rest) = elim (cases_lt (most_line + 1) (length (first ∷ rest))) [
  | inl many ↦ told_long first (take most_line rest) rest (omega (arith, length-take-le most_line rest (omega (arith, many)))) (omega (arith, many))
  | inr few ↦ ap told_in (take_all (most_line + 1) (first ∷ rest) few)
]

-- What is told of what is buffered of a line is told of the line.
pub takes_buffered : (n : ℕ) (old new : Capture) (line : List ℕ) (Added : List ℕ → Type 0) → (f : TellsNext (told_in line) old new Added)
    → TakesBuffered capture_line TellsStep (record { number = n; old = old; line = line; new = Some new; text = f.text })
takes_buffered n old new line Added f = λ whole same.
    let is : told_in line ≡ line_of whole = ap told_in (sym same) ∙ told_buffered (without_blanks whole) in
    record {
      status = f.status;
      text = f.text;
      tells = subst (λ (l : CaptureLine). TellsLine (place old) l f.status f.text) is f.tells;
      added = refl;
      place = f.place ∙ ap (behind (place old)) is;
      all = f.all;
    }

-- A line has no more than one frame.
pub behind-most : (p : CapturePlace) (l : CaptureLine) → (behind p l).number ≤ p.number + 1
behind-most p specs.Nothing = omega arith
behind-most p (specs.Frame mark bytes) = omega arith
behind-most p specs.NotHexadecimal = omega arith
behind-most p specs.TooLong = omega arith

-- ---- the lines of an input

pub not_none : {A : Type 0} (x : A) → Some x ≡ None → ⊥
not_none x e = let z : ⊥ = cc (e) in z

-- What is left behind these lines, which were told with this text, is a capture of this status.
pub record Outcome (c : Capture) (lines : List (List ℕ)) (left : Option Capture) (text : List ℕ) : Type 0 where
  pub new : Capture
  pub is : left ≡ Some new
  pub status : Status
  pub tells : TellsFrom (place c) (map line_of lines) status text
  pub all : new.status ≡ both c.status status

outcome_from : (n : ℕ) (c : Capture) (lines : List (List ℕ)) (left : Option Capture) (text : List ℕ)
    → TakesFrom TellsStep (record { number = n; sink = c }) lines (record { left = left; text = text }) → Outcome c lines left text
outcome_from n c [] left text f = record { new = c; is = f.0; status = Done; tells = (refl, f.1); all = sym (both_done c.status) }
outcome_from n c (line ∷ others) left text (inl f) =
    let told = f.3 in
    let rest = outcome_from (n + 1) f.0 others left f.2 f.4 in
    let l = line_of line in
    record {
      new = rest.new;
      is = rest.is;
      status = both told.status rest.status;
      tells = (
        told.status,
        f.1,
        rest.status,
        f.2,
        subst (TellsLine (place c) l told.status) told.added told.tells,
        subst (λ (p : CapturePlace). TellsFrom p (map line_of others) rest.status f.2) told.place rest.tells,
        refl,
        f.5,
      );
      all = rest.all ∙ ap (λ (s : Status). both s rest.status) told.all ∙ both_assoc c.status told.status rest.status;
    }
outcome_from n c (line ∷ others) left text (inr f) = absurd f.1

module _ (how : Telling) (first : Capture) (starts : place first ≡ start how) (done : first.status ≡ Done) where
  outcome : (bytes : List ℕ) (left : Option Capture) (text : List ℕ)
      → TakesAll TellsStep (record { first = first; bytes = bytes; left = left; text = text })
      → (new : Capture) × (left ≡ Some new) × TellsCapture how bytes new.status text
  outcome bytes left text f =
      let out = outcome_from 1 first (lines_of bytes) left text f in
      let same : out.new.status ≡ out.status = out.all ∙ ap (λ (s : Status). both s out.status) done in (
        out.new,
        out.is,
        rw same (subst (λ (p : CapturePlace). TellsFrom p (map line_of (lines_of bytes)) out.status text) starts out.tells),
      )

  pub told_ended : (bytes : List ℕ) (g : GoesOn capture_line TellsStep first bytes) → TellsEnded how bytes g.text
  told_ended bytes g =
      let out = outcome g.lines (Some g.sink) g.text g.takes in
      record { lines = g.lines; line = g.line; are = g.are; ended = g.ended; one = g.one; status = out.0.status; tells = out.2 }

  -- All lines are told, up to the end of the input.
  pub answers : (old new : Option (List ℕ)) (bytes text : List ℕ) (left : Option Capture)
      → ReadsLines most_bytes (GoesOn capture_line TellsStep first) (record { old = old; new = new; bytes = bytes })
      → IsWhole capture_line TellsStep new (record { first = first; bytes = bytes; left = left; text = text })
      → (capture : Capture) × (left ≡ Some capture) × ReadsAll old new bytes × TellsCapture how bytes capture.status text
  answers old new bytes text left f whole =
      let out = outcome bytes left text whole.0 in (
        out.0,
        out.1,
        record {
          read = f.read;
          whole = elim whole.1 [
            | inl end ↦ end
            | inr stops ↦ absurd (not_none out.0 (sym out.1 ∙ stops.none))
          ];
        },
        out.2,
      )
