-- What is told of a frame, or in place of one: lines, or an object of JSON in a line (this profile; RFC 8259).
use Rattle.std.specs.Prelude.{◌≡◌, ℕ, Bool, false, List, [], ◌∷◌, ◌++◌, codes, Option, Some, None}
use Rattle.std.specs.Fmt.{decimal}
use Rattle.json.specs.Lex.{tokens}
use Rattle.json.specs.Print.{print}
use Rattle.json.specs.Token.{Token}
use Rattle.tpm_output.specs.declared.form.Form.TheVariants.{Lines, Json}
use Rattle.tpm_output.specs.declared.form.Form.{Form}
use Rattle.tpm_show.specs.declared.capture_lines.Direction.TheVariants.{Command, Reply}
use Rattle.tpm_show.specs.declared.capture_lines.Direction.{Direction}
use Rattle.tpm_show.specs.declared.piece.How.TheVariants as how
use Rattle.tpm_show.specs.FrameJson.{object_of}
use Rattle.tpm_show.specs.FrameLines.{in_lines}
use Rattle.tpm_show.specs.Pieces.{Word, Number, Piece, InLine, line_end, says, words}

-- The text is these tokens in a line, and reads back as them.
pub record IsObjectLine (object : List Token) (text : List ℕ) : Type 0 where
  pub is : text ≡ print object ++ codes "\n"
  pub reads_back : tokens (print object) ≡ object

-- The text tells these pieces: in lines, with names behind numbers where these are asked for, or in an object.
abbrev pub IsReport : Form → (names : Bool) → List Piece → (text : List ℕ) → Type 0
IsReport Lines names pieces text = text ≡ in_lines names pieces
IsReport Json names pieces text = IsObjectLine (object_of pieces) text

-- where there is one
abbrev pub IsReportOrNothing : Form → Option (List Piece) → (text : List ℕ) → Type 0
IsReportOrNothing form None text = text ≡ []
IsReportOrNothing form (Some pieces) text = IsReport form false pieces text

-- ---- a frame

abbrev pub mark_of : Direction → List ℕ
mark_of Command = codes ">"
mark_of Reply = codes "<"

abbrev pub kind_of : Direction → List ℕ
kind_of Command = codes "command"
kind_of Reply = codes "response"

-- its number, and which way it went
unfoldable pub front : ℕ → Direction → List Piece
front number direction = says how.Alone (codes "number") (Number number) ∷ InLine how.Behind (Word (mark_of direction))
    ∷ says how.Nowhere (codes "kind") (Word (kind_of direction)) ∷ words (codes " ") ∷ []

-- ---- in place of a frame

abbrev pub fault_told : List ℕ → List Piece
fault_told fault = says how.Alone (codes "fault") (Word fault) ∷ line_end ∷ []

abbrev pub fault_at_told : List ℕ → ℕ → List Piece
fault_at_told fault at =
    says how.Alone (codes "fault") (Word fault) ∷ says how.Under (codes "at") (Number at) ∷ line_end ∷ []

-- of a line of this number that has no frame
unfoldable pub numbered_told : ℕ → List ℕ → List Piece
numbered_told number fault =
    says how.Alone (codes "number") (Number number) ∷ says how.Behind (codes "fault") (Word fault) ∷ line_end ∷ []

-- of a frame of this number that does not come, behind so many bytes
abbrev pub stop_told : ℕ → List ℕ → ℕ → List Piece
stop_told number fault at =
    says how.Alone (codes "number") (Number number) ∷ says how.Behind (codes "fault") (Word fault)
    ∷ says how.Under (codes "at") (Number at) ∷ line_end ∷ []

-- of a packet that is not told
abbrev pub packet_fault_told : ℕ → List ℕ → List Piece
packet_fault_told packet reason =
    words (codes "packet") ∷ says how.Behind (codes "packet") (Number packet)
    ∷ words (codes ":") ∷ says how.Behind (codes "fault") (Word reason) ∷ line_end ∷ []

-- of a file that is no capture
abbrev pub no_capture_told : List Piece
no_capture_told = fault_at_told (codes "no capture of libpcap") 0

-- of a file without packets of the port
unfoldable pub no_packet : ℕ → List ℕ
no_packet port = codes "no packet of port " ++ decimal port

-- of a capture whose link is of this type
unfoldable pub link_fault : ℕ → List ℕ
link_fault number = codes "link type " ++ (decimal number ++ codes " is not known")
