-- What is told of the fields of a buffer: each with its name, its type, its bytes and the name that Part 2 gives them,
-- and with its parts (this profile).
use Rattle.std.specs.Prelude.{ℕ, Bool, true, false, List, [], ◌∷◌, ◌++◌, codes as text, Option, Some, None}
use Rattle.tpm_wire.specs.Buffers.{Layout}
use Rattle.tpm_wire.specs.Layout.Form.{field}
use Rattle.tpm_wire.specs.Spelling.{spelling}
use Rattle.tpm_commands.specs.Row.{Field}
use Rattle.tpm_show.specs.declared.piece.How.TheVariants as how
use Rattle.tpm_show.specs.declared.piece.Shape.TheVariants as shape
use Rattle.tpm_show.specs.FieldNames.{value_name}
use Rattle.tpm_show.specs.Pieces.{Piece, Opens, Closes, Word, Number, Bytes, line_end, list_told, says, word_told}
use Rattle.tpm_show.specs.Pieces.{words}

-- ---- a field

-- so far in
unfoldable pub field_begins : (indent : List ℕ) → Field → (bytes : List ℕ) → List Piece
field_begins indent f bytes = Opens None shape.Object ∷ words indent
    ∷ says how.Alone (text "name") (Word f.name)
    ∷ says how.Behind (text "type") (Word f.type)
    ∷ says how.Behind (text "value") (Bytes bytes)
    ∷ (word_told how.Behind (text "value_name") (value_name f.type bytes) ++ line_end ∷ [])

unfoldable pub value_told : (indent : List ℕ) → Field → (bytes : List ℕ) → List Piece
value_told indent f bytes = field_begins indent f bytes ++ Closes shape.Object ∷ []

-- Its parts are a member of its own.
unfoldable pub structure_begins : (indent : List ℕ) → Field → (bytes : List ℕ) → List Piece
structure_begins indent f bytes = field_begins indent f bytes ++ Opens (Some (text "fields")) shape.List ∷ []

unfoldable pub structure_ends : List Piece
structure_ends = Closes shape.List ∷ Closes shape.Object ∷ []

abbrev pub structure_told : (indent : List ℕ) → Field → (bytes : List ℕ) → (parts : List Piece) → List Piece
structure_told indent f bytes parts = structure_begins indent f bytes ++ (parts ++ structure_ends)

-- a number by its name: a bit that is set, a field of bits, or a register that is selected
unfoldable pub number_told : (indent name : List ℕ) → ℕ → List Piece
number_told indent name n = Opens None shape.Object ∷ words indent
    ∷ says how.Alone (text "name") (Word name)
    ∷ says how.Behind (text "number") (Number n)
    ∷ line_end ∷ Closes shape.Object ∷ []

-- ---- the fields of a structure

-- the spelling of each part of a value, in the order of its layout: joined they are the spelling of the value
abbrev pub parts : {A : Type 0} → Layout A → A → List (List ℕ)
parts (field get l f) x = spelling l (get x) ∷ parts (f (get x)) x
parts _ x = []

abbrev pub field_told : (indent : List ℕ) → Field → (bytes : List ℕ) → Option (List Piece) → List Piece
field_told indent f bytes None = value_told indent f bytes
field_told indent f bytes (Some parts) = structure_told indent f bytes parts

abbrev pub first_of : List (Option (List Piece)) → Option (List Piece)
first_of [] = None
first_of (x ∷ xs) = x

abbrev pub others_of : List (Option (List Piece)) → List (Option (List Piece))
others_of [] = []
others_of (x ∷ xs) = xs

-- each field under its name, with its parts where there are some
abbrev pub fields_from :
    (indent : List ℕ) → List Field → List (List ℕ) → (insides : List (Option (List Piece))) → List Piece
fields_from indent (f ∷ fs) (bytes ∷ others) insides =
    field_told indent f bytes (first_of insides) ++ fields_from indent fs others (others_of insides)
fields_from indent _ _ insides = []

-- the parameters by their names, where these are asked for
abbrev pub fields_told : (fields : Bool) → List Piece → List Piece
fields_told false parameters = []
fields_told true parameters = list_told (text "fields") parameters
