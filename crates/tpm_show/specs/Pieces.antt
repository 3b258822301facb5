-- What is told of a frame, piece by piece, whether in lines or in an object of JSON (this profile).
use Rattle.std.specs.Prelude.{ℕ, List, [], ◌∷◌, ◌++◌, codes, Option, Some, None}
use Rattle.tpm_show.specs.declared.piece.How.{How}
use Rattle.tpm_show.specs.declared.piece.How.TheVariants as how
use Rattle.tpm_show.specs.declared.piece.Shape.{Shape}
use Rattle.tpm_show.specs.declared.piece.Shape.TheVariants as shape

-- a thing that is said
pub data Value : Type 0 where
  Word : List ℕ → Value
  Number : ℕ → Value
  Code : ℕ → Value
  Bytes : List ℕ → Value
  Null : Value

pub data Piece : Type 0 where
  -- a thing under a name, or an entry of a list without one, and how a line says it
  Says : How → (name : Option (List ℕ)) → Value → Piece
  -- a thing that a line alone says
  InLine : How → Value → Piece
  -- that this begins, under a name or as an entry, and that it ends, which no line says
  Opens : (name : Option (List ℕ)) → Shape → Piece
  Closes : Shape → Piece

-- ---- lists of pieces

abbrev pub says : How → (name : List ℕ) → Value → Piece
says h name v = Says h (Some name) v

-- a text of a line alone
abbrev pub words : List ℕ → Piece
words text = InLine how.Alone (Word text)

abbrev pub line_end : Piece
line_end = words (codes "\n")

-- a text under a name, where there is one
abbrev pub word_told : How → (name : List ℕ) → Option (List ℕ) → List Piece
word_told h name None = []
word_told h name (Some word) = says h name (Word word) ∷ []

-- a text of a line alone, where there is one and names are asked for
abbrev pub asked_told : Option (List ℕ) → List Piece
asked_told None = []
asked_told (Some word) = InLine how.Asked (Word word) ∷ []

abbrev pub list_told : (name : List ℕ) → (entries : List Piece) → List Piece
list_told name entries = Opens (Some name) shape.List ∷ (entries ++ Closes shape.List ∷ [])
