-- How far the lines of an input have been taken.
use Rattle.std.specs.Prelude.{◌≡◌, ℕ, ◌+◌, ◌≤◌, Bool, true, false, List, [], ◌∷◌, ◌++◌, length}
use Rattle.tpm_output.specs.declared.input_lines.LineReader.{LineReader}
use Rattle.tpm_output.specs.InputLines.{lines_of}
use Rattle.tpm_output.specs.LineSinks.{GoesOn, Limits, OnTrue, LineStep, StopsAt, TakesAll}
use Rattle.tpm_output.specs.LineSinks.{TakesBuffered, buffered, some_if}

abbrev pub has_some : List ℕ → Bool
has_some [] = false
has_some (byte ∷ bytes) = true

module _ {S : Type 0} (limits : Limits) (Takes : LineStep S → Type 0) where
  -- All these bytes were taken, with this text: the lines that have ended, and of the present one what is buffered.
  pub record Holds (first : S) (bytes text : List ℕ) (r : LineReader S) : Type 0 where
    pub goes : GoesOn limits Takes first bytes
    pub sink : goes.sink ≡ r.sink
    pub same : goes.text ≡ text
    pub line : r.line.items ≡ buffered limits goes.line
    pub begun : r.begun ≡ has_some goes.line
    pub number : r.number ≡ 1 + length (lines_of goes.lines)

  -- With these bytes what is printed is over.
  pub record IsOver (first : S) (bytes text : List ℕ) : Type 0 where
    pub at : StopsAt limits Takes first bytes
    pub text_is : text ≡ at.text ++ at.last

  -- What was taken up to the one, whatever it is, and these bytes were taken up to the other.
  abbrev pub FeedsOn : (old new : LineReader S) → (bytes added : List ℕ) → Type 0
  FeedsOn old new bytes added = (first : S) (before text : List ℕ) → Holds first before text old
      → Holds first (before ++ bytes) (text ++ added) new

  -- It goes on, or not at all.
  abbrev pub Feeds : (IsAt : ℕ → S → Type 0) → Bool → (old new : LineReader S) → (bytes added : List ℕ) → Type 0
  Feeds IsAt true old new bytes added = record {
    on : FeedsOn old new bytes added;
    at : IsAt new.number new.sink;
    number : new.number ≤ old.number + length bytes;
  }
  Feeds IsAt false old new bytes added = (first : S) (before text : List ℕ) → Holds first before text old
      → IsOver first (before ++ bytes) (text ++ added)

  -- The present line was given to the sink.
  abbrev pub EndsLine : (IsAt : ℕ → S → Type 0) → Bool → (old new : LineReader S) → (added : List ℕ) → Type 0
  EndsLine IsAt goes_on old new added =
      TakesBuffered limits Takes (record {
        number = old.number;
        old = old.sink;
        line = old.line.items;
        new = some_if goes_on new.sink;
        text = added;
      })
      × OnTrue goes_on (record {
        at : IsAt new.number new.sink;
        line : new.line.items ≡ [];
        begun : new.begun ≡ false;
        number : new.number ≡ old.number + 1;
        short : limits.long_ends ≡ true → length old.line.items ≤ limits.most;
      })

  -- All that was taken is all there is.
  abbrev pub EndsAll : Bool → (old new : LineReader S) → (added : List ℕ) → Type 0
  EndsAll goes_on old new added = (first : S) (bytes text : List ℕ) → Holds first bytes text old
      → TakesAll Takes (record {
        first = first;
        bytes = bytes;
        left = some_if goes_on new.sink;
        text = text ++ added;
      })
