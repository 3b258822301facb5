-- What is told of a frame in an object of JSON (RFC 8259).
use Rattle.std.specs.Prelude.{List, [], ◌∷◌, ◌++◌, flat_map}
use Rattle.std.specs.Fmt.{decimal}
use Rattle.hex.specs.Hex.{encode_lower}
use Rattle.json.specs.Token.{Token, begin_object, end_object, begin_array, end_array, string, number, null}
use Rattle.tpm_output.specs.Numbers.{hexadecimal}
use Rattle.tpm_output.specs.Reading.{name_tokens}
use Rattle.tpm_show.specs.declared.piece.Shape.{Shape}
use Rattle.tpm_show.specs.declared.piece.Shape.TheVariants as shape
use Rattle.tpm_show.specs.Pieces.{Value, Word, Number, Code, Bytes, Null, Piece, Says, InLine, Opens, Closes}

abbrev pub token : Value → Token
token (Word w) = string w
token (Number n) = number (decimal n)
token (Code n) = string (hexadecimal 3 n)
token (Bytes bytes) = string (encode_lower bytes)
token Null = null

abbrev pub opening : Shape → Token
opening shape.Object = begin_object
opening shape.List = begin_array

abbrev pub closing : Shape → Token
closing shape.Object = end_object
closing shape.List = end_array

abbrev pub tokens_of : Piece → List Token
tokens_of (Says h name v) = name_tokens name ++ token v ∷ []
tokens_of (InLine h v) = []
tokens_of (Opens name s) = name_tokens name ++ opening s ∷ []
tokens_of (Closes s) = closing s ∷ []

unfoldable pub object_of : List Piece → List Token
object_of pieces = begin_object ∷ (flat_map tokens_of pieces ++ end_object ∷ [])
