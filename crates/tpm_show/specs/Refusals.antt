-- What is told of a buffer, whether the bytes spell what they are taken for or not (this profile). Where a command is
-- named they are taken for a response to it, and else for a command.
use Rattle.std.specs.Prelude.{◌≡◌, ◌⊎◌, ℕ, ◌&&◌, Bool, true, false, List, [], ◌∷◌, ◌++◌, codes, Option, Some, None}
use Rattle.std.specs.Prelude.{is_some}
use Rattle.tpm_wire.specs.declared.refusal.Refusal.{Refusal}
use Rattle.tpm_wire.specs.Path.{Spells, Fault}
use Rattle.tpm_types.specs.declared.command_code.CommandCode.{CommandCode}
use Rattle.tpm_types.specs.CommandCodes.{code_number}
use Rattle.tpm_commands.specs.declared.command.Command.{Command as CommandOf}
use Rattle.tpm_commands.specs.declared.response.Response.{Response}
use Rattle.tpm_buffer.specs.Commands.{command}
use Rattle.tpm_buffer.specs.CommandAreas.{Cut, HasCut}
use Rattle.tpm_buffer.specs.Responses.{ReplyCut, reply_cut, response}
use Rattle.tpm_output.specs.declared.status.Status.TheVariants.{Done, Refused}
use Rattle.tpm_output.specs.declared.status.Status.{Status}
use Rattle.tpm_show.specs.declared.capture_lines.Direction.TheVariants.{Command, Reply}
use Rattle.tpm_show.specs.declared.capture_lines.Direction.{Direction}
use Rattle.tpm_show.specs.declared.frame_header.FrameHeader.{FrameHeader}
use Rattle.tpm_show.specs.Areas.{command_rest, response_rest}
use Rattle.tpm_show.specs.Beyond.{is_beyond}
use Rattle.tpm_show.specs.CommandNames.{command_of}
use Rattle.tpm_names.specs.Codes.{name_of_code}
use Rattle.tpm_show.specs.declared.piece.How.TheVariants as how
use Rattle.tpm_show.specs.Headers.{command_head, header_in, reply_head}
use Rattle.tpm_show.specs.Library.{command_areas_told, library_command, library_response, response_areas_told}
use Rattle.tpm_show.specs.Pieces.{Code, Number, Piece, asked_told, line_end, says, word_told, words}

-- ---- the header

-- what it says, of a reply to the command of this code
abbrev pub head_told : Direction → (answered : Option ℕ) → Option FrameHeader → List Piece
head_told direction answered None = []
head_told Command answered (Some h) = command_head h
head_told Reply answered (Some h) = reply_head answered h

abbrev pub buffer_head : (reply : Option CommandCode) → List ℕ → List Piece
buffer_head None bytes = head_told Command None (header_in bytes)
buffer_head (Some code) bytes = head_told Reply (Some (code_number code)) (header_in bytes)

-- ---- a fault

-- the bytes' fault
abbrev pub IsFault : (reply : Option CommandCode) → List ℕ → Refusal → Type 0
IsFault None bytes refusal = Fault command bytes refusal
IsFault (Some code) bytes refusal = Fault (response code) bytes refusal

-- the code of a header; without one none is beyond the profile
abbrev pub code_in : Option FrameHeader → ℕ
code_in None = 0
code_in (Some h) = h.code

-- It is beyond this profile where a larger one would not have it, and the library's tables have what is behind the
-- header.
abbrev pub is_buffer_beyond : (reply : Option CommandCode) → List ℕ → Refusal → Bool
is_buffer_beyond None bytes refusal =
    is_some (library_command bytes (header_in bytes)) && is_beyond Command (code_in (header_in bytes)) refusal bytes
is_buffer_beyond (Some code) bytes refusal =
    is_some (library_response (command_of (code_number code)) bytes (header_in bytes))
    && is_beyond Reply (code_number code) refusal bytes

-- what is behind the header by the library's tables
abbrev pub library_told : (reply : Option CommandCode) → List ℕ → List Piece
library_told None bytes = command_areas_told (library_command bytes (header_in bytes))
library_told (Some code) bytes =
    response_areas_told (library_response (command_of (code_number code)) bytes (header_in bytes))

abbrev pub verdict : (beyond : Bool) → List ℕ
verdict false = codes "refused"
verdict true = codes "beyond this profile,"

abbrev pub verdict_name : (beyond : Bool) → List ℕ
verdict_name false = codes "refused"
verdict_name true = codes "beyond"

-- a response code, its name where Part 2 has one (6.6), which ends the line, and how many bytes precede the fault
unfoldable pub refusal_told : (beyond : Bool) → Refusal → List Piece
refusal_told beyond refusal = words (verdict beyond) ∷ says how.Behind (verdict_name beyond) (Code refusal.code)
    ∷ (word_told how.Nowhere (codes "fault") (name_of_code refusal.code)
    ++ says how.Under (codes "at") (Number refusal.at) ∷ (asked_told (name_of_code refusal.code) ++ line_end ∷ []))

abbrev pub refused_told : (reply : Option CommandCode) → List ℕ → Refusal → List Piece
refused_told reply bytes refusal =
    refusal_told (is_buffer_beyond reply bytes refusal) refusal ++ library_told reply bytes

-- What is beyond this profile is not refused.
abbrev pub status_if : (beyond : Bool) → Status
status_if true = Done
status_if false = Refused

-- ---- a buffer

-- A command or a response that the bytes spell is told behind its header.
abbrev pub TellsSpelled : (fields : Bool) → (reply : Option CommandCode) → List ℕ → List Piece → Type 0
TellsSpelled fields None bytes pieces =
    (c : CommandOf) × (areas : Cut) × Spells command c bytes × HasCut bytes areas
    × (pieces ≡ command_rest fields areas c.body)
TellsSpelled fields (Some code) bytes pieces =
    (r : Response) × (areas : ReplyCut) × Spells (response code) r bytes × Spells (reply_cut code) areas bytes
    × (pieces ≡ response_rest fields areas r)

-- It is told, and else their fault.
abbrev pub TellsBuffer : (fields : Bool) → (reply : Option CommandCode) → List ℕ → Status → List Piece → Type 0
TellsBuffer fields reply bytes status pieces =
    ((status ≡ Done) × TellsSpelled fields reply bytes pieces)
    ⊎ ((refusal : Refusal) × IsFault reply bytes refusal
    × (status ≡ status_if (is_buffer_beyond reply bytes refusal))
    × (pieces ≡ refused_told reply bytes refusal))
