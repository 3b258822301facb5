-- What lines are given to, one after the other, and what comes of all of them.
use Rattle.std.specs.Prelude.{◌≡◌, ◌⊎◌, ℕ, ◌+◌, ◌<◌, ◌≤◌, Bool, true, false, List, [], ◌∷◌, ◌++◌, length, take, filter}
use Rattle.std.specs.Prelude.{Option, Some, None}
use Rattle.std.specs.Io.KnownBytes.{Consumes, IsAtEnd}
use Rattle.tpm_output.specs.InputLines.{lines_of, HasNoFeed, AreEnded, most_piece}

-- ---- a line

-- which bytes count in a line, how many it has of them at most, and whether one that has more ends what is printed
pub record Limits : Type 0 where
  pub counts : ℕ → Bool
  pub most : ℕ
  pub long_ends : Bool

-- what is buffered of a line: the bytes that count, up to one too many
abbrev pub buffered : Limits → List ℕ → List ℕ
buffered limits line = take (limits.most + 1) (filter limits.counts line)

-- A sink is given a line of this number, and adds this text. It goes on as the other, or not at all.
pub record LineStep (Sink : Type 0) : Type 0 where
  pub number : ℕ
  pub old : Sink
  pub line : List ℕ
  pub new : Option Sink
  pub text : List ℕ

abbrev pub some_if : {A : Type 0} → Bool → A → Option A
some_if true x = Some x
some_if false x = None

abbrev pub OnTrue : Bool → Type 0 → Type 0
OnTrue true P = P
OnTrue false P = Unit {0}

-- So is every line given of which this is buffered.
abbrev pub TakesBuffered : {Sink : Type 0} → Limits → (Takes : LineStep Sink → Type 0) → LineStep Sink → Type 0
TakesBuffered limits Takes step = (line : List ℕ) → buffered limits line ≡ step.line
    → Takes (record { number = step.number; old = step.old; line = line; new = step.new; text = step.text })

-- ---- lines

-- the number of the first of some lines, and the sink that it is given to
pub record LinesStart (Sink : Type 0) : Type 0 where
  pub number : ℕ
  pub sink : Sink

-- the sink that is left behind lines, where it goes on, and what they added
pub record LinesEnd (Sink : Type 0) : Type 0 where
  pub left : Option Sink
  pub text : List ℕ

-- These lines are given one after the other, up to one that ends what is printed.
abbrev pub TakesFrom : {Sink : Type 0} → (Takes : LineStep Sink → Type 0) → LinesStart Sink → List (List ℕ)
    → LinesEnd Sink → Type 0
TakesFrom Takes at [] end = (end.left ≡ Some at.sink) × (end.text ≡ [])
TakesFrom {Sink = Sink} Takes at (line ∷ others) end =
    ((mid : Sink) × (one : List ℕ) × (more : List ℕ)
    × Takes (record { number = at.number; old = at.sink; line = line; new = Some mid; text = one })
    × TakesFrom Takes (record { number = at.number + 1; sink = mid }) others (record { left = end.left; text = more })
    × (end.text ≡ one ++ more))
    ⊎ (end.left ≡ None)
    × Takes (record { number = at.number; old = at.sink; line = line; new = None; text = end.text })

-- the bytes of an input, the sink that their lines are given to, and what comes of them
pub record Reading (Sink : Type 0) : Type 0 where
  pub first : Sink
  pub bytes : List ℕ
  pub left : Option Sink
  pub text : List ℕ

-- These bytes are all that come.
abbrev pub TakesAll : {Sink : Type 0} → (Takes : LineStep Sink → Type 0) → Reading Sink → Type 0
TakesAll Takes r = TakesFrom Takes (record { number = 1; sink = r.first }) (lines_of r.bytes) (record {
  left = r.left;
  text = r.text;
})

-- The lines that have ended were taken, with this text, and what has come of the next has not too many bytes.
pub record GoesOn {Sink : Type 0} (limits : Limits) (Takes : LineStep Sink → Type 0) (first : Sink)
    (bytes : List ℕ) : Type 0 where
  pub lines : List ℕ
  pub line : List ℕ
  pub are : bytes ≡ lines ++ line
  pub ended : AreEnded lines
  pub one : HasNoFeed line
  pub short : limits.long_ends ≡ true → length (filter limits.counts line) ≤ limits.most
  pub sink : Sink
  pub text : List ℕ
  pub takes : TakesAll Takes (record { first = first; bytes = lines; left = Some sink; text = text })

-- Up to a line all were taken, and this line, which has ended or has too many bytes, ends what is printed.
pub record StopsAt {Sink : Type 0} (limits : Limits) (Takes : LineStep Sink → Type 0) (first : Sink)
    (bytes : List ℕ) : Type 0 where
  pub lines : List ℕ
  pub line : List ℕ
  pub rest : List ℕ
  pub are : bytes ≡ lines ++ (line ++ rest)
  pub ended : AreEnded lines
  pub one : HasNoFeed line
  pub over : ((more : List ℕ) × (rest ≡ 10 ∷ more)) ⊎ (limits.most < length (filter limits.counts line))
  pub sink : Sink
  pub text : List ℕ
  pub takes : TakesAll Takes (record { first = first; bytes = lines; left = Some sink; text = text })
  pub last : List ℕ
  pub stops : (more : List ℕ) → (whole : List ℕ) × (others : List (List ℕ))
      × (lines_of (bytes ++ more) ≡ lines_of lines ++ whole ∷ others)
      × Takes (record { number = 1 + length (lines_of lines); old = sink; line = whole; new = None; text = last })

-- So it stops, whatever comes behind these bytes.
pub record Stops {Sink : Type 0} (limits : Limits) (Takes : LineStep Sink → Type 0) (r : Reading Sink) : Type 0 where
  pub none : r.left ≡ None
  pub at : StopsAt limits Takes r.first r.bytes
  pub text : r.text ≡ at.text ++ at.last

-- This is what comes of an input, of which these bytes were read and this is to come.
abbrev pub IsWhole : {Sink : Type 0} → Limits → (Takes : LineStep Sink → Type 0) → (coming : Option (List ℕ))
    → Reading Sink → Type 0
IsWhole limits Takes coming r = TakesAll Takes r × (IsAtEnd coming ⊎ Stops limits Takes r)

-- ---- what is read

-- bytes that were read of a source, and what it told to be to come before and after
pub record Consumed : Type 0 where
  pub old : Option (List ℕ)
  pub new : Option (List ℕ)
  pub bytes : List ℕ

-- No more than so many bytes were read. Before the last of them, which came in one read, no line had ended the reading.
pub record ReadsLines (most : ℕ) (Goes : List ℕ → Type 0) (c : Consumed) : Type 0 where
  pub read : Consumes c.old c.new c.bytes
  pub before : List ℕ
  pub last : List ℕ
  pub are : c.bytes ≡ before ++ last
  pub goes : Goes before
  pub piece : length last ≤ most_piece
  pub most_read : length before + length last ≤ most

-- One byte more was read than there may be, and before that byte no line had ended the reading.
pub record ReadsOneMore (most : ℕ) (Goes : List ℕ → Type 0) (old new : Option (List ℕ)) : Type 0 where
  pub bytes : List ℕ
  pub more : List ℕ
  pub read : Consumes old new (bytes ++ more)
  pub all : length bytes ≡ most
  pub one : length more ≡ 1
  pub goes : Goes bytes
