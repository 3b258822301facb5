-- What `show` prints of a capture: frames of both directions, each in a line (this profile).
use Rattle.std.specs.Prelude.{◌≡◌, ◌<◌, ℕ, ◌+◌, ◌==◌, ◌||◌, ◌&&◌, nat_lt, not, Bool, false, List, [], ◌∷◌, ◌++◌, length}
use Rattle.std.specs.Prelude.{map, codes, Option, Some, None, option_map, is_some, if◌then◌else◌}
use Rattle.std.specs.Io.KnownBytes.{Consumes, IsAtEnd}
use Rattle.tpm_types.specs.declared.command_code.CommandCode.{CommandCode}
use Rattle.tpm_types.specs.CommandCodes.{code_number, code_of}
use Rattle.tpm_output.specs.declared.status.Status.TheVariants.{Done, Refused}
use Rattle.tpm_output.specs.declared.status.Status.{Status}
use Rattle.tpm_output.specs.Status.{both}
use Rattle.tpm_output.specs.Text.{bytes_in}
use Rattle.tpm_output.specs.InputLines.{lines_of, AreEnded, HasNoFeed}
pub use Rattle.tpm_show.specs.Digits.{is_blank, without_blanks, without_prefix}
use Rattle.tpm_show.specs.declared.capture_lines.Direction.TheVariants.{Command, Reply}
use Rattle.tpm_show.specs.declared.capture_lines.Direction.{Direction}
use Rattle.tpm_show.specs.declared.capture_frames.Awaited.{Awaited}
use Rattle.tpm_show.specs.declared.passage.Passage.{Passage}
use Rattle.tpm_show.specs.declared.telling.Telling.{Telling}
use Rattle.tpm_show.specs.CommandNames.{Listed, command_of}
use Rattle.tpm_show.specs.declared.frame_header.FrameHeader.{FrameHeader}
use Rattle.tpm_show.specs.Headers.{header_in}
use Rattle.tpm_show.specs.Library.{library_response, response_areas_told}
use Rattle.tpm_show.specs.Passages.{passage_told}
use Rattle.tpm_show.specs.declared.piece.How.TheVariants.{Alone}
use Rattle.tpm_show.specs.Pieces.{Piece, Word, line_end, says}
use Rattle.tpm_show.specs.Refusals.{TellsBuffer, head_told, status_if}
use Rattle.tpm_show.specs.Reports.{IsReport, front, numbered_told}
use Rattle.tpm_show.specs.declared.capture_frames.Awaited.TheVariants as awaits

-- ---- what a line has

-- a frame with its mark, `>` for a command and `<` for a reply, where it has one
pub data CaptureLine : Type 0 where
  Nothing : CaptureLine
  Frame : (mark : Option Direction) → (bytes : List ℕ) → CaptureLine
  NotHexadecimal : CaptureLine
  TooLong : CaptureLine

abbrev pub frame_of : Option Direction → Option (List ℕ) → CaptureLine
frame_of mark (Some bytes) = Frame mark bytes
frame_of mark None = NotHexadecimal

-- a mark, `0x` and the digits of a buffer of 4,096 bytes
abbrev pub most_line : ℕ
most_line = 8195

-- What stands behind `#` is a comment.
abbrev pub told_in : List ℕ → CaptureLine
told_in [] = Nothing
told_in (first ∷ rest) =
    if first == 35 then Nothing
    else if nat_lt most_line (length (first ∷ rest)) then TooLong
    else if first == 62 then frame_of (Some Command) (bytes_in (without_prefix rest))
    else if first == 60 then frame_of (Some Reply) (bytes_in (without_prefix rest))
    else frame_of None (bytes_in (without_prefix (first ∷ rest)))

abbrev pub line_of : List ℕ → CaptureLine
line_of text = told_in (without_blanks text)

-- ---- which way a frame went

-- the number behind the tag and the size: a command's code, or a response's
abbrev pub code_number_in : List ℕ → Option ℕ
code_number_in bytes = option_map (λ h. h.code) (header_in bytes)

abbrev pub is_zero : Option ℕ → Bool
is_zero None = false
is_zero (Some n) = n == 0

-- Without a mark a frame is taken for a response by its code 0, or since it has no more than a code.
abbrev pub is_response : List ℕ → Bool
is_response bytes = length bytes == 10 || is_zero (code_number_in bytes)

abbrev pub unmarked : Awaited → List ℕ → Direction
unmarked awaits.Nothing bytes = Command
unmarked _ bytes = if is_response bytes then Reply else Command

abbrev pub direction_of : Option Direction → Awaited → List ℕ → Direction
direction_of (Some direction) awaited bytes = direction
direction_of None awaited bytes = unmarked awaited bytes

abbrev pub awaited_named : Option CommandCode → (code : ℕ) → Awaited
awaited_named None code = awaits.Other code
awaited_named (Some command) code = awaits.Reply command

abbrev pub awaited_of : Option ℕ → Awaited
awaited_of None = awaits.Unknown
awaited_of (Some code) = awaited_named (code_of code) code

-- Behind a command comes its reply.
abbrev pub awaited_behind : Direction → List ℕ → Awaited
awaited_behind Command bytes = awaited_of (code_number_in bytes)
awaited_behind Reply bytes = awaits.Nothing

-- the code of the command whose reply comes, where it is known
abbrev pub answered_code : Awaited → Option ℕ
answered_code awaits.Nothing = None
answered_code awaits.Unknown = None
answered_code (awaits.Reply command) = Some (code_number command)
answered_code (awaits.Other code) = Some code

-- ---- what is told of a frame

-- A response of another code than 0 is ten bytes (Part 1, "Command/Response Structure").
abbrev pub is_code_alone : Option FrameHeader → List ℕ → Bool
is_code_alone None bytes = false
is_code_alone (Some h) bytes = not (h.code == 0) && (h.size == 10 && length bytes == 10)

-- why a reply is not told
unfoldable pub untold : (sentence : List ℕ) → List Piece
untold sentence = says Alone (codes "fault") (Word sentence) ∷ line_end ∷ []

-- a response to a command that the profile hasn't: it is a code alone, or the library's tables have what is behind it
abbrev pub TellsOther : Option Listed → List ℕ → Status → List Piece → Type 0
TellsOther None bytes status pieces =
    (status ≡ Refused) × (pieces ≡ untold (codes "its command is not known"))
TellsOther (Some c) bytes status pieces =
    (status ≡ status_if (is_code_alone (header_in bytes) bytes
    || is_some (library_response (Some c) bytes (header_in bytes))))
    × (pieces ≡ response_areas_told (library_response (Some c) bytes (header_in bytes)))

-- a frame where it stands: its bytes, which reply is awaited there, its place among packets, and whether its fields are
-- told
pub record FrameAt : Type 0 where
  pub bytes : List ℕ
  pub awaited : Awaited
  pub passage : Passage
  pub fields : Bool

abbrev pub TellsReply : Awaited → FrameAt → Status → List Piece → Type 0
TellsReply (awaits.Reply command) f status pieces = TellsBuffer f.fields (Some command) f.bytes status pieces
TellsReply (awaits.Other code) f status pieces = TellsOther (command_of code) f.bytes status pieces
TellsReply awaits.Unknown f status pieces =
    (status ≡ Refused) × (pieces ≡ untold (codes "its command is not known"))
TellsReply awaits.Nothing f status pieces =
    (status ≡ Refused) × (pieces ≡ untold (codes "no command is before it"))

-- behind the header of a frame that went this way
abbrev pub TellsRest : Direction → FrameAt → Status → List Piece → Type 0
TellsRest Command f status pieces = TellsBuffer f.fields None f.bytes status pieces
TellsRest Reply f status pieces = TellsReply f.awaited f status pieces

-- what its header says, whatever is refused, its packet, and what stands behind the header
abbrev pub TellsFrame : Direction → FrameAt → Status → List Piece → Type 0
TellsFrame direction f status pieces =
    (rest : List Piece) × TellsRest direction f status rest
    × (pieces ≡ head_told direction (answered_code f.awaited) (header_in f.bytes) ++ (passage_told f.passage ++ rest))

-- ---- what is told of lines

-- how frames are told, the number of the next one, which reply may come next, and a frame's place among packets
pub record CapturePlace : Type 0 where
  pub how : Telling
  pub number : ℕ
  pub awaited : Awaited
  pub passage : Passage

abbrev pub no_passage : Passage
no_passage = record { connection = 0; stamp = None }

abbrev pub start : Telling → CapturePlace
start how = record { how = how; number = 1; awaited = awaits.Nothing; passage = no_passage }

abbrev pub behind : CapturePlace → CaptureLine → CapturePlace
behind p Nothing = p
behind p (Frame mark bytes) =
    record p { number = p.number + 1; awaited = awaited_behind (direction_of mark p.awaited bytes) bytes }
behind p _ = record p { number = p.number + 1; awaited = awaits.Unknown }

abbrev pub frame_at : CapturePlace → (bytes : List ℕ) → FrameAt
frame_at p bytes =
    record { bytes = bytes; awaited = p.awaited; passage = p.passage; fields = p.how.fields }

abbrev pub TellsLine : CapturePlace → CaptureLine → Status → List ℕ → Type 0
TellsLine p Nothing status text = (status ≡ Done) × (text ≡ [])
TellsLine p (Frame mark bytes) status text =
    let direction = direction_of mark p.awaited bytes in
    (pieces : List Piece)
    × TellsFrame direction (frame_at p bytes) status pieces
    × IsReport p.how.form p.how.fields (front p.number direction ++ pieces) text
TellsLine p NotHexadecimal status text =
    (status ≡ Refused) × IsReport p.how.form false (numbered_told p.number (codes "not hexadecimal")) text
TellsLine p TooLong status text =
    (status ≡ Refused) × IsReport p.how.form false (numbered_told p.number (codes "too long")) text

-- From this place these are told one after the other. All is done where each is.
abbrev pub TellsEach : {A : Type 0} → (next : CapturePlace → A → CapturePlace)
    → (Tells : CapturePlace → A → Status → List ℕ → Type 0) → CapturePlace → List A → Status → List ℕ → Type 0
TellsEach next Tells p [] status text = (status ≡ Done) × (text ≡ [])
TellsEach next Tells p (first ∷ others) status text =
    (one : Status) × (told : List ℕ) × (rest : Status) × (more : List ℕ)
    × Tells p first one told
    × TellsEach next Tells (next p first) others rest more
    × (status ≡ both one rest)
    × (text ≡ told ++ more)

abbrev pub TellsFrom : CapturePlace → List CaptureLine → Status → List ℕ → Type 0
TellsFrom p lines status text = TellsEach behind TellsLine p lines status text

-- For these bytes of a capture this is the status and what is printed.
abbrev pub TellsCapture : (how : Telling) → List ℕ → Status → List ℕ → Type 0
TellsCapture how bytes status text = TellsFrom (start how) (map line_of (lines_of bytes)) status text

-- Of these bytes the lines that have ended are told, and of the one that has not nothing.
pub record TellsEnded (how : Telling) (bytes text : List ℕ) : Type 0 where
  pub lines : List ℕ
  pub line : List ℕ
  pub are : bytes ≡ lines ++ line
  pub ended : AreEnded lines
  pub one : HasNoFeed line
  pub status : Status
  pub tells : TellsCapture how lines status text

-- ---- what is read

-- These bytes of the input were read, and it has ended.
pub record ReadsAll (old new : Option (List ℕ)) (bytes : List ℕ) : Type 0 where
  pub read : Consumes old new bytes
  pub whole : IsAtEnd new

-- 2^62
abbrev pub most_bytes : ℕ
most_bytes = 4611686018427387904

-- More was read than a capture may have.
pub record ReadsTooMuchCapture (old new : Option (List ℕ)) : Type 0 where
  pub bytes : List ℕ
  pub read : Consumes old new bytes
  pub more : most_bytes < length bytes
