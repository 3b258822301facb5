-- Pieces and fields, as the program has them.
use Rattle.std.specs.Prelude.{option_map}
use Rattle.tpm_commands.specs.Row.{Field, named}
use Rattle.tpm_show.specs.declared.field.Field.{Field as FieldInCode}
use Rattle.tpm_show.specs.declared.piece.Piece.{Piece as PieceInCode}
use Rattle.tpm_show.specs.declared.piece.Piece.TheVariants as piece
use Rattle.tpm_show.specs.declared.piece.Value.{Value as ValueInCode}
use Rattle.tpm_show.specs.declared.piece.Value.TheVariants as value
use Rattle.tpm_show.specs.Pieces.{Value, Word, Number, Code, Bytes, Null, Piece, Says, InLine, Opens, Closes}

abbrev pub as_value : ValueInCode → Value
as_value (value.Word w) = Word w.now
as_value (value.Number n) = Number n
as_value (value.Code n) = Code n
as_value (value.Bytes b) = Bytes b.now
as_value value.Null = Null

abbrev pub as_piece : PieceInCode → Piece
as_piece (piece.Says h name v) = Says h (option_map (λ n. n.now) name) (as_value v)
as_piece (piece.InLine h v) = InLine h (as_value v)
as_piece (piece.Opens name s) = Opens (option_map (λ n. n.now) name) s
as_piece (piece.Closes s) = Closes s

-- the name and the type of a field
abbrev pub field_as : FieldInCode → Field
field_as f = named f.1.now f.2.now
