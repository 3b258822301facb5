-- What `show` prints (this profile).
use Rattle.std.specs.Prelude.{◌≡◌, ◌⊎◌, ℕ, Bool, true, false, List, [], ◌∷◌, ◌++◌, length, codes, Option, Some, None}
use Rattle.std.specs.Fmt.{decimal}
use Rattle.tpm_wire.specs.declared.refusal.Refusal.{Refusal}
use Rattle.tpm_wire.specs.Path.{Spells}
use Rattle.tpm_types.specs.declared.command_code.CommandCode.{CommandCode}
use Rattle.tpm_commands.specs.declared.command.Command.{Command}
use Rattle.tpm_commands.specs.declared.command.CommandBody.{CommandBody}
use Rattle.tpm_commands.specs.declared.response.Response.{Response}
use Rattle.tpm_commands.specs.declared.response.Response.TheVariants as responses
use Rattle.tpm_types.specs.CommandCodes.{code_name}
use Rattle.tpm_buffer.specs.Commands.{command}
use Rattle.tpm_buffer.specs.CommandAreas.{Cut, HasCut}
use Rattle.tpm_buffer.specs.Responses.{ReplyCut, reply_cut, response}
use Rattle.tpm_output.specs.declared.status.Status.TheVariants.{Done, Refused}
use Rattle.tpm_output.specs.declared.status.Status.{Status}
use Rattle.tpm_output.specs.Text.{line, not_hexadecimal_line}
use Rattle.tpm_names.specs.Codes.{name_of_code}
use Rattle.tpm_show.specs.declared.piece.How.TheVariants as how
use Rattle.tpm_show.specs.Areas.{command_rest, reply_rest}
use Rattle.tpm_show.specs.Digits.{buffer_in}
use Rattle.tpm_show.specs.FrameLines.{in_lines}
use Rattle.tpm_show.specs.Pieces.{Code, Piece, InLine, asked_told, line_end, words}
use Rattle.tpm_show.specs.Refusals.{IsFault, buffer_head, is_buffer_beyond, refusal_told, refused_told, status_if}

-- ---- lines

-- the first line of a buffer of so many bytes: a command, or the reply to it
unfoldable pub first_line : (kind : List ℕ) → CommandCode → ℕ → List ℕ
first_line kind code size = line (kind ∷ code_name code ∷ codes "size" ∷ decimal size ∷ [])

-- a code that has nothing behind it
unfoldable pub code_alone_told : ℕ → List Piece
code_alone_told code =
    words (codes "reply code") ∷ InLine how.Behind (Code code) ∷ (asked_told (name_of_code code) ++ line_end ∷ [])

-- a command of so many bytes, and where these are asked for with names
unfoldable pub command_lines : (fields : Bool) → ℕ → Cut → CommandBody → List ℕ
command_lines fields size areas body =
    first_line (codes "command") areas.header.code size ++ in_lines fields (command_rest fields areas body)

-- a response to this command, of so many bytes
unfoldable pub response_lines : (fields : Bool) → CommandCode → ℕ → ReplyCut → Response → List ℕ
response_lines fields code size r (responses.Code n) = in_lines fields (code_alone_told n)
response_lines fields code size r (responses.Done body auths) =
    first_line (codes "reply") code size ++ in_lines fields (reply_rest fields r body)

-- ---- what is shown

-- A command or a response that the bytes spell is shown.
abbrev pub ShowsSpelled : (fields : Bool) → (reply : Option CommandCode) → List ℕ → (text : List ℕ) → Type 0
ShowsSpelled fields None bytes text =
    (c : Command) × (areas : Cut) × Spells command c bytes × HasCut bytes areas
    × (text ≡ command_lines fields (length bytes) areas c.body)
ShowsSpelled fields (Some code) bytes text =
    (r : Response) × (areas : ReplyCut) × Spells (response code) r bytes × Spells (reply_cut code) areas bytes
    × (text ≡ response_lines fields code (length bytes) areas r)

-- Without fields a fault is a line alone, and with them what a capture tells of the same frame.
abbrev pub ShowsRefused :
    (fields : Bool) → (reply : Option CommandCode) → List ℕ → Refusal → Status → (text : List ℕ) → Type 0
ShowsRefused false reply bytes refusal status text =
    (status ≡ Refused) × (text ≡ in_lines false (refusal_told false refusal))
ShowsRefused true reply bytes refusal status text =
    (status ≡ status_if (is_buffer_beyond reply bytes refusal))
    × (text ≡ in_lines true (buffer_head reply bytes ++ refused_told reply bytes refusal))

-- It is shown, and else their fault. Text that has no buffer is not hexadecimal.
abbrev pub ShowsBuffer :
    (fields : Bool) → (reply : Option CommandCode) → Option (List ℕ) → Status → (text : List ℕ) → Type 0
ShowsBuffer fields reply None status text = (status ≡ Refused) × (text ≡ not_hexadecimal_line)
ShowsBuffer fields reply (Some bytes) status text =
    ((status ≡ Done) × ShowsSpelled fields reply bytes text)
    ⊎ ((refusal : Refusal) × IsFault reply bytes refusal × ShowsRefused fields reply bytes refusal status text)

-- For this text of digits, read as a response to this command where one is named, `show` has this status, and prints
-- this text.
abbrev pub Shows : Option CommandCode → List ℕ → Status → List ℕ → Type 0
Shows reply hex status text = ShowsBuffer false reply (buffer_in hex) status text

-- The same of `show --fields`.
abbrev pub ShowsFields : Option CommandCode → List ℕ → Status → List ℕ → Type 0
ShowsFields reply hex status text = ShowsBuffer true reply (buffer_in hex) status text
