-- What comes of a stream in pieces, and of one that is read to its end.
use Rattle.std.specs.Prelude.{◌≡◌, ◌≢◌, ℕ, List, [], ◌∷◌, ◌++◌, drop, Option, Some, Result, Ok}
use Rattle.arrayvec.specs.ArrayVec.{ArrayVec}
use Rattle.tpm_stream.specs.declared.framer.FramerState.TheVariants.{Ready}
use Rattle.tpm_stream.specs.declared.framer.FramerState.{FramerState}
use Rattle.tpm_stream.specs.declared.reader.ReadFault.{ReadFault}
use Rattle.tpm_stream.specs.Frames.{Pushes, Advances}
use Rattle.tpm_stream.specs.Reads.{ReadsFrame}

-- what a framer held before it was given bytes, what it holds then, and which of them it did not take
pub record Framing : Type 0 where
  pub old : List ℕ
  pub new : List ℕ
  pub left : List ℕ

-- the same of a new framer, which holds nothing
abbrev pub of_new : (new left : List ℕ) → Framing
of_new new left = record { old = []; new = new; left = left }

-- A piece was given to a framer. As often as a frame was ready it was dropped, and the bytes that were not taken were
-- given again. These frames came.
abbrev pub GivenPiece : Framing → (piece : List ℕ) → (frames : List (List ℕ)) → Type 0
GivenPiece f piece [] =
    (k : ℕ) × (state : FramerState)
    × Pushes (record { old = f.old; piece = piece; new = f.new; taken = k; state = state })
    × (state ≢ Ready) × (f.left ≡ drop k piece)
GivenPiece f piece (frame ∷ frames) =
    (k : ℕ) × (next : List ℕ)
    × Pushes (record { old = f.old; piece = piece; new = frame; taken = k; state = Ready })
    × Advances frame next
    × GivenPiece (record { old = next; new = f.new; left = f.left }) (drop k piece) frames

-- The same of pieces one after the other. The bytes left are those of all of them that were not taken.
abbrev pub GivenPieces : Framing → (pieces frames : List (List ℕ)) → Type 0
GivenPieces f [] frames = (frames ≡ []) × (f.new ≡ f.old) × (f.left ≡ [])
GivenPieces f (piece ∷ pieces) frames =
    (first later : List (List ℕ)) × (between unused behind : List ℕ)
    × GivenPiece (record { old = f.old; new = between; left = unused }) piece first
    × GivenPieces (record { old = between; new = f.new; left = behind }) pieces later
    × (frames ≡ first ++ later) × (f.left ≡ unused ++ behind)

-- Frames were read from a source that has these bytes left, where it tells them, one after the other, and then this was
-- answered.
abbrev pub ReadInTurn : Option (List ℕ) → List (List ℕ) → Result (Option (ArrayVec ℕ)) ReadFault → Type 0
ReadInTurn coming [] last = (more : Option (List ℕ)) × ReadsFrame coming more last
ReadInTurn coming (frame ∷ frames) last =
    (more : Option (List ℕ)) × ReadsFrame coming more (Ok (Some (record { items = frame })))
    × ReadInTurn more frames last
