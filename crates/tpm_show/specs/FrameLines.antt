-- What is told of a frame in lines (this profile).
use Rattle.std.specs.Prelude.{ℕ, Bool, true, false, List, [], ◌++◌, codes, flat_map, Option, Some, None}
use Rattle.std.specs.Fmt.{decimal}
use Rattle.tpm_output.specs.Numbers.{hexadecimal}
use Rattle.tpm_output.specs.Text.{bytes_text}
use Rattle.tpm_show.specs.declared.piece.How.{How}
use Rattle.tpm_show.specs.declared.piece.How.TheVariants as how
use Rattle.tpm_show.specs.Pieces.{Value, Word, Number, Code, Bytes, Null, Piece, Says, InLine, Opens, Closes}

abbrev pub shown : Value → List ℕ
shown (Word w) = w
shown (Number n) = decimal n
shown (Code n) = hexadecimal 3 n
shown (Bytes bytes) = bytes_text bytes
shown Null = []

abbrev pub under : (name : Option (List ℕ)) → List ℕ → List ℕ
under None text = codes " " ++ text
under (Some name) text = codes " " ++ (name ++ (codes " " ++ text))

abbrev pub said : How → (names : Bool) → (name : Option (List ℕ)) → Value → List ℕ
said how.Alone names name v = shown v
said how.Behind names name v = codes " " ++ shown v
said how.Asked true name v = codes " " ++ shown v
said how.Asked false name v = []
said how.FurtherAsked true name v = codes "," ++ shown v
said how.FurtherAsked false name v = []
said how.Under names name v = under name (shown v)
said how.Nowhere names name v = []

abbrev pub line_of : (names : Bool) → Piece → List ℕ
line_of names (Says h name v) = said h names name v
line_of names (InLine h v) = said h names None v
line_of names (Opens name s) = []
line_of names (Closes s) = []

abbrev pub in_lines : (names : Bool) → List Piece → List ℕ
in_lines names pieces = flat_map (line_of names) pieces
