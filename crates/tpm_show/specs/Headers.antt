-- The header of a frame, whatever a profile has of it, and what is told of it (Part 1, "Command/Response Structure";
-- this profile).
use Rattle.std.specs.Prelude.{ℕ, List, [], ◌∷◌, ◌++◌, length, take, nat_lt, codes, Option, Some}
use Rattle.std.specs.Prelude.{None, if◌then◌else◌, option_map}
use Rattle.std.specs.Result.{result_ok}
use Rattle.std.specs.Int.{to_be_bytes, w16, w32}
use Rattle.tpm_wire.specs.Token.{at_start}
use Rattle.tpm_wire.specs.Layout.Form.{field, done}
use Rattle.tpm_wire.specs.Reading.{read}
use Rattle.tpm_wire.specs.Buffers.{Layout, any_number}
use Rattle.tpm_output.specs.Named.{named_in, table_as}
use Rattle.tpm_show.specs.declared.frame_header.TheConstants.{TAG_NAMES}
use Rattle.tpm_show.specs.declared.frame_header.FrameHeader.{FrameHeader}
use Rattle.tpm_show.specs.CommandNames.{Listed, command_of}
use Rattle.tpm_names.specs.Codes.{name_of_code}
use Rattle.tpm_show.specs.declared.piece.How.TheVariants as how
use Rattle.tpm_show.specs.Pieces.{Value, Word, Number, Code, Bytes, Piece, line_end, says, word_told, words}

-- ---- ten bytes

-- a tag, the number of bytes that the frame says it has, and a command's code or a response's; whatever they are
unfoldable pub frame_header : Layout FrameHeader
frame_header =
    field (λ h. h.tag) (any_number 2) (λ tag.
    field (λ h. h.size) (any_number 4) (λ size.
    field (λ h. h.code) (any_number 4) (λ code.
    done (record { tag = tag; size = size; code = code }))))

-- Fewer than ten bytes have no header.
unfoldable pub header_in : List ℕ → Option FrameHeader
header_in bytes =
    if nat_lt (length bytes) 10 then None
    else option_map (λ x. x.0) (result_ok (read 0 frame_header (at_start (take 10 bytes))))

-- ---- names

-- TPM_ST (Part 2, 6.9)
unfoldable pub tag_named : ℕ → Option (List ℕ)
tag_named tag = named_in (table_as TAG_NAMES) tag

-- the name of a command of the library, or the number of any other
abbrev pub name_or_number : Option Listed → ℕ → Value
name_or_number (Some c) code = Word c.name
name_or_number None code = Bytes (to_be_bytes w32 code)

abbrev pub behind_space : (name : Option (List ℕ)) → List ℕ
behind_space None = []
behind_space (Some name) = codes " " ++ name

-- ---- what is told of a header

abbrev pub command_told : ℕ → Piece
command_told code = says how.Behind (codes "command") (name_or_number (command_of code) code)

unfoldable pub size_and_tag : FrameHeader → List Piece
size_and_tag h = says how.Under (codes "size") (Number h.size)
    ∷ says how.Under (codes "tag") (Bytes (to_be_bytes w16 h.tag))
    ∷ word_told how.Asked (codes "tag_name") (tag_named h.tag)

unfoldable pub command_head : FrameHeader → List Piece
command_head h = words (codes "command") ∷ command_told h.code ∷ (size_and_tag h
    ++ says how.Nowhere (codes "command_code") (Bytes (to_be_bytes w32 h.code)) ∷ line_end ∷ [])

-- which command a reply answers, where one is before it
abbrev pub answered : Option ℕ → List Piece
answered None = []
answered (Some code) = command_told code ∷ []

unfoldable pub reply_head : (command : Option ℕ) → FrameHeader → List Piece
reply_head command h = words (codes "reply") ∷ (answered command ++ (size_and_tag h
    ++ says how.Under (codes "code") (Code h.code)
    ∷ (word_told how.Behind (codes "code_name") (name_of_code h.code) ++ line_end ∷ [])))
