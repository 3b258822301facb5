-- What stands behind the header of a frame, by how many handles a command of the library or its response has (Part 1,
-- "Command/Response Structure"; Part 3, the tables of each). Its parameters are not judged.
use Rattle.std.specs.Prelude.{ℕ, ◌*◌, ◌+◌, true, List, [], ◌++◌, length, drop, map, Option, Some, None, ◌==◌, ◌&&◌}
use Rattle.std.specs.Prelude.{false, nat_le, if◌then◌else◌}
use Rattle.std.specs.Result.{result_ok}
use Rattle.tpm_wire.specs.Buffers.{Layout, any_number, numbered}
use Rattle.tpm_wire.specs.Layout.Form.{done, field, list}
use Rattle.tpm_wire.specs.Layout.{raw, remaining, either}
use Rattle.tpm_wire.specs.Reading.{read_all}
use Rattle.tpm_types.specs.declared.tpms.Auth.{Auth}
use Rattle.tpm_types.specs.declared.tpms.AuthReply.{AuthReply}
use Rattle.tpm_types.specs.Tpms.{auth_response}
use Rattle.tpm_buffer.specs.Commands.{is_tag, authorization}
use Rattle.tpm_buffer.specs.Responses.{parameter_size}
use Rattle.tpm_show.specs.declared.frame_header.FrameHeader.{FrameHeader}
use Rattle.tpm_show.specs.CommandNames.{Listed, command_of}
use Rattle.tpm_show.specs.Pieces.{Piece}
use Rattle.tpm_show.specs.HandleNames.{handles_told}
use Rattle.tpm_show.specs.Sessions.{of_command, of_reply, sessions_told}
use Rattle.tpm_show.specs.Areas.{areas_told, parameters_told}

-- ---- what commands and responses share

-- so many handles, whatever they are
unfoldable pub any_handles : ℕ → Layout (List ℕ)
any_handles n = list n false (λ _. any_number 4)

-- what stands behind a header that has the size of the frame, and a tag of a command or a response
unfoldable pub behind_whole : List ℕ → FrameHeader → Option (List ℕ)
behind_whole bytes h =
    if (h.size == length bytes && is_tag h.tag) && nat_le 10 (length bytes) then Some (drop 10 bytes) else None

-- ---- a command

pub record CommandAreas : Type 0 where
  pub handles : List ℕ
  pub auths : List Auth
  pub params : List ℕ

unfoldable pub command_areas : (handles tag : ℕ) → Layout CommandAreas
command_areas handles tag =
    field (λ a. a.handles) (any_handles handles) (λ hs.
    field (λ a. a.auths) (authorization tag) (λ auths.
    field (λ a. a.params) remaining (λ params.
    done (record { handles = hs; auths = auths; params = params }))))

-- ---- a response of code 0

unfoldable pub response_sessions : Layout (List AuthReply)
response_sessions = list 3 true (λ before. numbered (0x900 + 0x100 * length before) auth_response)

pub record ResponseAreas : Type 0 where
  pub handles : List ℕ
  pub params : List ℕ
  pub auths : List AuthReply

unfoldable pub with_sessions : List ℕ → Layout ResponseAreas
with_sessions handles =
    field (λ a. length a.params) parameter_size (λ size.
    field (λ a. a.params) (raw size) (λ params.
    field (λ a. a.auths) response_sessions (λ auths.
    done (record { handles = handles; params = params; auths = auths }))))

unfoldable pub without_sessions : List ℕ → Layout ResponseAreas
without_sessions handles =
    field (λ a. a.params) remaining (λ params. done (record { handles = handles; params = params; auths = [] }))

abbrev pub behind_handles : List ℕ → (tag : ℕ) → Layout ResponseAreas
behind_handles handles tag = either (tag == 0x8002) (with_sessions handles) (without_sessions handles)

unfoldable pub response_areas : (handles tag : ℕ) → Layout ResponseAreas
response_areas handles tag = field (λ a. a.handles) (any_handles handles) (λ hs. behind_handles hs tag)

-- ---- where they are there

abbrev pub command_areas_of : Option Listed → (tag : ℕ) → Option (List ℕ) → Option CommandAreas
command_areas_of (Some c) tag (Some rest) = result_ok (read_all (command_areas c.handles tag) rest)
command_areas_of _ tag _ = None

-- of a command of the library, where its handles and its sessions are there
abbrev pub library_command : List ℕ → Option FrameHeader → Option CommandAreas
library_command bytes None = None
library_command bytes (Some h) = command_areas_of (command_of h.code) h.tag (behind_whole bytes h)

abbrev pub response_areas_of : Option Listed → (tag : ℕ) → Option (List ℕ) → Option ResponseAreas
response_areas_of (Some c) tag (Some rest) = result_ok (read_all (response_areas c.reply_handles tag) rest)
response_areas_of _ tag _ = None

-- of a response of code 0 that is to this command of the library, where they are there
abbrev pub library_response : Option Listed → List ℕ → Option FrameHeader → Option ResponseAreas
library_response c bytes None = None
library_response c bytes (Some h) =
    if h.code == 0 then response_areas_of c h.tag (behind_whole bytes h) else None

-- ---- what is told of them

abbrev pub command_areas_told : Option CommandAreas → List Piece
command_areas_told None = []
command_areas_told (Some a) = areas_told a.handles (map of_command a.auths) a.params

abbrev pub response_areas_told : Option ResponseAreas → List Piece
response_areas_told None = []
response_areas_told (Some a) =
    handles_told a.handles ++ (parameters_told a.params ++ sessions_told (map of_reply a.auths))
