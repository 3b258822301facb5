-- A command: a header, handles, sessions and parameters (Part 1, "Command/Response Structure"; Part 2, 6.9).
use Rattle.std.specs.Prelude.{ℕ, ◌+◌, Bool, true, List, [], length, Some, None, nat_le, ◌==◌, ◌&&◌, ◌||◌, if◌then◌else◌}
use Rattle.tpm_wire.specs.Buffers.{Layout, number_in, numbered}
use Rattle.tpm_wire.specs.Layout.Form.{done, number, field, area, list}
use Rattle.tpm_wire.specs.Layout.{either}
use Rattle.tpm_wire.specs.ResponseCodes.{rc_bad_tag, rc_command_size, rc_authsize, of_session}
use Rattle.tpm_wire.specs.Spelling.{spelling}
use Rattle.tpm_types.specs.declared.tpms.Auth.{Auth}
use Rattle.tpm_types.specs.Tpms.{auth_command}
use Rattle.tpm_types.specs.declared.command_code.CommandCode.{CommandCode}
use Rattle.tpm_commands.specs.declared.command.Command.{Command}
use Rattle.tpm_commands.specs.declared.command.CommandBody.{CommandBody}
use Rattle.tpm_commands.specs.declared.command.Header.{Header}
use Rattle.tpm_types.specs.CommandCodes.{command_code}
use Rattle.tpm_commands.specs.Handles.{handles}
use Rattle.tpm_commands.specs.Parameters.{parameters}
pub use Rattle.tpm_commands.specs.Table.{register_in, index_in, policy_in, pcr_or_null_in, nv_auth_in, bind_in}
pub use Rattle.tpm_commands.specs.Table.{body_from, params_of, code_for, handles_of}

-- ---- the header

-- TPM_ST_NO_SESSIONS or TPM_ST_SESSIONS
abbrev pub is_tag : ℕ → Bool
is_tag n = n == 0x8001 || n == 0x8002

unfoldable pub tag : Layout ℕ
tag = number_in 2 is_tag rc_bad_tag

-- the number of bytes of the buffer, of which six are read with it
unfoldable pub command_size : Layout ℕ
command_size =
    number 4 (λ left n. if (n == left + 6) && nat_le 10 n && nat_le n 4096 then Some n else None) (λ n. n)
    rc_command_size

unfoldable pub header : Layout Header
header =
    field (λ h. h.tag) tag (λ t.
    field (λ h. h.size) command_size (λ n.
    field (λ h. h.code) command_code (λ code.
    done (record { tag = t; size = n; code = code }))))

-- ---- the authorization area, where the tag says so

-- sessions to the end of the area, at most three, each with its number
unfoldable pub sessions : Layout (List Auth)
sessions = list 3 true (λ before. numbered (of_session (1 + length before)) auth_command)

-- the size of one session at least, and of what is left of the buffer at most
unfoldable pub authorization_size : Layout ℕ
authorization_size = number 4 (λ left n. if nat_le 9 n && nat_le n left then Some n else None) (λ n. n) rc_authsize

unfoldable pub authorization : ℕ → Layout (List Auth)
authorization t = either (t == 0x8002)
    (field (λ auths. length (spelling sessions auths)) authorization_size (λ n. area n rc_authsize sessions))
    (done [])

-- ---- the command

-- with sessions or without
abbrev pub tag_of : Command → ℕ
tag_of c = if length c.auths.items == 0 then 0x8001 else 0x8002

abbrev pub with_auths : CommandBody → List Auth → Command
with_auths body auths = record { body = body; auths = record { items = auths } }

-- what follows the header
abbrev pub rest_of : CommandCode → ℕ → Layout Command
rest_of code t =
    field (λ c. handles_of c.body) (handles code) (λ hs.
    field (λ c. c.auths.items) (authorization t) (λ auths.
    field (λ c. params_of c.body) (parameters code) (λ p.
    done (with_auths (body_from hs p) auths))))

-- how many bytes the command has
abbrev pub size_of : Command → ℕ
size_of c = 10 + length (spelling (rest_of (code_for c.body) (tag_of c)) c)

abbrev pub header_of : Command → Header
header_of c = record { tag = tag_of c; size = size_of c; code = code_for c.body }

unfoldable pub command : Layout Command
command = field header_of header (λ h. rest_of h.code h.tag)

-- ---- a command, cut before its authorization area and before its parameters

pub record Front : Type 0 where
  pub header : Header
  pub handles : List ℕ

unfoldable pub front : Layout Front
front =
    field (λ f. f.header) header (λ h.
    field (λ f. f.handles) (handles h.code) (λ hs.
    done (record { header = h; handles = hs })))

pub record Checked : Type 0 where
  pub header : Header
  pub handles : List ℕ
  pub auths : List Auth

unfoldable pub before_params : Layout Checked
before_params =
    field (λ c. c.header) header (λ h.
    field (λ c. c.handles) (handles h.code) (λ hs.
    field (λ c. c.auths) (authorization h.tag) (λ auths.
    done (record { header = h; handles = hs; auths = auths }))))
