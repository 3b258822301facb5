-- The frames that came of the front of a stream.
use Rattle.std.proofs.Common.{◌≡◌, ℕ, ◌+◌, ◌≤◌, List, [], ◌∷◌, ◌++◌, length, take, drop, All, sym, ap, subst, ◌∙◌}
use Rattle.std.proofs.Common.{append_assoc, arith, length-append, take-append-drop, append-nil}
use Rattle.std.proofs.lemmas.List.Elements.{All-push}
use Rattle.std.proofs.lemmas.List.Folds.{concat-append}
use Rattle.std.proofs.lemmas.List.{take-take, nil_from_length}
use Rattle.std.specs.List.{concat}
use Rattle.tpm_stream.specs.Frames.{IsFrame, IsPart, BeginsNoFrame, Frames}

-- They are written one after the other. Behind them in the stream is what is held, and then what is left.
pub record Came (stream held left out : List ℕ) (written : ℕ) : Type 0 where
  pub frames : List (List ℕ)
  pub whole : stream ≡ concat frames ++ (held ++ left)
  pub each : All IsFrame frames
  pub count : written ≡ length (concat frames)
  pub bytes : take written out ≡ concat frames

-- Frames were read of the stream and written, nothing is held, and the room is as long as it was.
pub record Reading (stream left out began : List ℕ) (written : ℕ) : Type 0 where
  pub came : Came stream [] left out written
  pub room : length out ≡ length began

-- some of what was left is held
pub more : (stream held left new rest out : List ℕ) (written : ℕ)
    → Came stream held left out written → held ++ left ≡ new ++ rest → Came stream new rest out written
more stream held left new rest out written came e = record {
  frames = came.frames;
  whole = came.whole ∙ ap (λ (r : List ℕ). concat came.frames ++ r) e;
  each = came.each;
  count = came.count;
  bytes = came.bytes;
}

pushed : (held left new piece rest : List ℕ) (n k : ℕ) → piece ≡ take n left
    → length piece ≡ n → rest ≡ drop k left → k ≤ length piece → new ≡ held ++ take k piece → held ++ left ≡ new ++ rest
pushed held left new piece rest n k front count back within e =
    let le : k ≤ n = omega (arith, within, count) in
    let taken : take k piece ≡ take k left = ap (λ (r : List ℕ). take k r) front ∙ take-take k n left le in
    ap (λ (r : List ℕ). held ++ r) (sym (take-append-drop k left)) ∙ sym (append_assoc held (take k left) (drop k left))
    ∙ ap (λ (r : List ℕ). r ++ drop k left) (sym (e ∙ ap (λ (r : List ℕ). held ++ r) taken)) ∙ ap (λ (r : List ℕ). new ++ r) (sym back)

pub pushes : (stream held left out : List ℕ) (written : ℕ) → Came stream held left out written
    → (new piece rest : List ℕ) (n k : ℕ) → piece ≡ take n left → length piece ≡ n → rest ≡ drop k left → k ≤ length piece
    → new ≡ held ++ take k piece → Came stream new rest out written
pushes stream held left out written came new piece rest n k front count back within e =
    more stream held left new rest out written came (pushed held left new piece rest n k front count back within e)

-- there is room for what is held
pub room : (stream held left out : List ℕ) (written : ℕ) → Came stream held left out written → length stream ≤ length out → written + length held ≤ length out
room stream held left out written came fits =
    omega (arith, fits, came.count, ap length came.whole, length-append (concat came.frames) (held ++ left), length-append held left)

-- a frame that was held was written
pub frame : (stream held left out new : List ℕ) (written : ℕ)
    → Came stream held left out written → IsFrame held → take (written + length held) new ≡ take written out ++ held
    → Came stream [] left new (written + length held)
frame stream held left out new written came is e =
    let joined : concat (came.frames ++ held ∷ []) ≡ concat came.frames ++ held =
    concat-append came.frames (held ∷ []) ∙ ap (λ (r : List ℕ). concat came.frames ++ r) (append-nil held) in
    record {
      frames = came.frames ++ held ∷ [];
      whole = came.whole ∙ sym (append_assoc (concat came.frames) held left) ∙ ap (λ (r : List ℕ). r ++ left) (sym joined);
      each = All-push IsFrame came.frames held came.each is;
      count = omega (arith, came.count, ap length joined, length-append (concat came.frames) held);
      bytes = e ∙ ap (λ (r : List ℕ). r ++ held) came.bytes ∙ sym joined;
    }

-- no more comes
pub over : (stream held left out : List ℕ) (written : ℕ) → Came stream held left out written → BeginsNoFrame (held ++ left)
    → (frames : List (List ℕ)) × (rest : List ℕ) × Frames stream frames rest × (written ≡ length (concat frames)) × (take written out ≡ concat frames)
over stream held left out written came none = (came.frames, held ++ left, record { whole = came.whole; each = came.each; over = none }, came.count, came.bytes)

pub at_end : (held left : List ℕ) → IsPart held → length left ≡ 0 → BeginsNoFrame (held ++ left)
at_end held left part none = subst BeginsNoFrame (sym (append-nil held) ∙ ap (λ (r : List ℕ). held ++ r) (sym (nil_from_length left none))) part.no_frame
