-- What stands behind the header of a frame, whether the profile has its command or the library's table (this profile).
use Rattle.std.specs.Prelude.{ℕ, Bool, List, [], ◌∷◌, ◌++◌, codes, map, option_to_list}
use Rattle.tpm_commands.specs.declared.command.CommandBody.{CommandBody}
use Rattle.tpm_commands.specs.declared.command.ReplyBody.{ReplyBody}
use Rattle.tpm_commands.specs.declared.response.Response.{Response}
use Rattle.tpm_commands.specs.declared.response.Response.TheVariants as responses
use Rattle.tpm_buffer.specs.CommandAreas.{Cut}
use Rattle.tpm_buffer.specs.ResponseAreas.{handle_of}
use Rattle.tpm_buffer.specs.Responses.{ReplyCut}
use Rattle.tpm_show.specs.Fields.{command_fields, reply_fields}
use Rattle.tpm_show.specs.declared.piece.How.TheVariants as how
use Rattle.tpm_show.specs.FieldText.{fields_told}
use Rattle.tpm_show.specs.HandleNames.{handles_told}
use Rattle.tpm_show.specs.Pieces.{Bytes, Piece, line_end, says, words}
use Rattle.tpm_show.specs.Sessions.{ShownSession, of_command, of_reply, sessions_told}

-- the parameters as they came
unfoldable pub parameters_told : (bytes : List ℕ) → List Piece
parameters_told bytes = words (codes "parameters") ∷ says how.Behind (codes "parameters") (Bytes bytes) ∷ line_end ∷ []

-- what stands behind a command's header: its handles, its sessions, and its parameters as they came
unfoldable pub areas_told : (handles : List ℕ) → List ShownSession → (params : List ℕ) → List Piece
areas_told handles sessions params = handles_told handles ++ (sessions_told sessions ++ parameters_told params)

-- a command, and where this is asked for its parameters by their names and their types
unfoldable pub command_rest : (fields : Bool) → Cut → CommandBody → List Piece
command_rest fields areas body =
    areas_told areas.handles (map of_command areas.auths) areas.params ++ fields_told fields (command_fields body)

-- a reply: its handle, its parameters likewise, and its sessions
unfoldable pub reply_rest : (fields : Bool) → ReplyCut → ReplyBody → List Piece
reply_rest fields r body =
    handles_told (option_to_list (handle_of r))
    ++ (parameters_told r.params
    ++ (fields_told fields (reply_fields body) ++ sessions_told (map of_reply r.auths)))

-- A response of another code than 0 has nothing there.
abbrev pub response_rest : (fields : Bool) → ReplyCut → Response → List Piece
response_rest fields r (responses.Code n) = []
response_rest fields r (responses.Done body auths) = reply_rest fields r body
