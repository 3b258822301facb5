-- A response to a given command: a header, and where its code is 0 a handle, parameters and sessions (Part 1,
-- "Command/Response Structure"; Part 2, 6.9).
use Rattle.std.specs.Prelude.{◌≡◌, ℕ, ◌+◌, Bool, true, not, List, [], ◌∷◌, length, Some, None, nat_le, ◌==◌}
use Rattle.std.specs.Prelude.{◌||◌, if◌then◌else◌}
use Rattle.tpm_wire.specs.Buffers.{Layout, number_in, numbered}
use Rattle.tpm_wire.specs.Layout.Form.{done, number, field, area, list}
use Rattle.tpm_wire.specs.Layout.{raw, remaining, either}
use Rattle.tpm_wire.specs.ResponseCodes.{rc_bad_tag, rc_size, rc_value, of_session}
use Rattle.tpm_wire.specs.Spelling.{spelling}
use Rattle.tpm_types.specs.declared.tpms.AuthReply.{AuthReply}
use Rattle.tpm_types.specs.Tpms.{auth_response}
use Rattle.tpm_types.specs.declared.command_code.CommandCode.{CommandCode}
use Rattle.tpm_commands.specs.declared.command.ReplyBody.TheVariants.{Startup}
use Rattle.tpm_commands.specs.declared.command.ReplyBody.{ReplyBody}
use Rattle.tpm_commands.specs.declared.response.Response.{Response}
use Rattle.tpm_commands.specs.Replies.{code_for_reply, reply_handles, reply_handles_of, reply_parameters}
use Rattle.tpm_commands.specs.declared.response.Response.TheVariants as responses
use Rattle.tpm_buffer.specs.Commands.{command_size}
use Rattle.tpm_buffer.specs.Parts.{tag_for}

-- ---- the header

-- TPM_ST_NO_SESSIONS, TPM_ST_SESSIONS or TPM_ST_RSP_COMMAND
abbrev pub is_response_tag : ℕ → Bool
is_response_tag n = n == 0x8001 || n == 0x8002 || n == 0x00C4

unfoldable pub response_tag : Layout ℕ
response_tag = number_in 2 is_response_tag rc_bad_tag

-- With sessions the code is 0; under TPM_ST_RSP_COMMAND it is TPM_RC_BAD_TAG, which has no other tag.
abbrev pub goes_with : ℕ → ℕ → Bool
goes_with t n = if t == 0x8002 then n == 0 else if t == 0x00C4 then n == rc_bad_tag else not (n == rc_bad_tag)

unfoldable pub response_code : ℕ → Layout ℕ
response_code t = number_in 4 (goes_with t) rc_value

-- the tag, and the number of bytes of the buffer
unfoldable pub response_front : Layout (ℕ × ℕ)
response_front = field (λ f. f.0) response_tag (λ t. field (λ f. f.1) command_size (λ size. done (t, size)))

-- ---- the sessions

-- the first is always there
unfoldable pub further_sessions : Layout (List AuthReply)
further_sessions = list 2 true (λ before. numbered (of_session (2 + length before)) auth_response)

abbrev pub first_session : List AuthReply → AuthReply
first_session [] = record { nonce = []; attrs = 0; hmac = [] }
first_session (a ∷ others) = a

abbrev pub other_sessions : List AuthReply → List AuthReply
other_sessions [] = []
other_sessions (a ∷ others) = others

unfoldable pub reply_sessions : Layout (List AuthReply)
reply_sessions =
    field first_session (numbered (of_session 1) auth_response) (λ a.
    field other_sessions further_sessions (λ others.
    done (a ∷ others)))

-- ---- what follows a code of 0

-- how many bytes the parameters have, of those that are left
unfoldable pub parameter_size : Layout ℕ
parameter_size = number 4 (λ left n. if nat_le n left then Some n else None) (λ n. n) rc_size

-- the reply, and the sessions where the tag has them
pub record Reply : Type 0 where
  pub body : ReplyBody
  pub auths : List AuthReply

unfoldable pub with_sessions : Layout ReplyBody → Layout Reply
with_sessions parameters =
    field (λ r. length (spelling parameters r.body)) parameter_size (λ n.
    field (λ r. r.body) (area n rc_size parameters) (λ body.
    field (λ r. r.auths) reply_sessions (λ auths.
    done (record { body = body; auths = auths }))))

unfoldable pub without_sessions : Layout ReplyBody → Layout Reply
without_sessions parameters = field (λ r. r.body) parameters (λ body. done (record { body = body; auths = [] }))

abbrev pub reply_behind : ℕ → Layout ReplyBody → Layout Reply
reply_behind t parameters = either (t == 0x8002) (with_sessions parameters) (without_sessions parameters)

abbrev pub reply : CommandCode → ℕ → Layout Reply
reply command t =
    field (λ r. reply_handles_of r.body) (reply_handles command) (λ hs.
    reply_behind t (reply_parameters command hs))

-- ---- the response

abbrev pub code_of_response : Response → ℕ
code_of_response (responses.Code n) = n
code_of_response (responses.Done body auths) = 0

-- with sessions or without
abbrev pub reply_tag : List AuthReply → ℕ
reply_tag auths = tag_for auths

abbrev pub code_tag : ℕ → ℕ
code_tag n = if n == rc_bad_tag then 0x00C4 else 0x8001

abbrev pub tag_of_response : Response → ℕ
tag_of_response (responses.Code n) = code_tag n
tag_of_response (responses.Done body auths) = reply_tag auths.items

abbrev pub no_reply : Reply
no_reply = record { body = Startup; auths = [] }

abbrev pub reply_of : Response → Reply
reply_of (responses.Code n) = no_reply
reply_of (responses.Done body auths) = record { body = body; auths = auths.items }

abbrev pub done_with : Reply → Response
done_with r = responses.Done r.body (record { items = r.auths })

-- what follows the header
abbrev pub behind_code : CommandCode → ℕ → ℕ → Layout Response
behind_code command t n =
    either (n == 0) (field reply_of (reply command t) (λ r. done (done_with r))) (done (responses.Code n))

abbrev pub size_of_response : CommandCode → Response → ℕ
size_of_response command r = 10 + length (spelling (behind_code command (tag_of_response r) (code_of_response r)) r)

unfoldable pub response : CommandCode → Layout Response
response command =
    field (λ r. (tag_of_response r, size_of_response command r)) response_front (λ f.
    field code_of_response (response_code f.0) (λ n.
    behind_code command f.0 n))

-- ---- a response whose parameters are not judged

pub record ReplyCut : Type 0 where
  pub code : ℕ
  pub handles : List ℕ
  pub params : List ℕ
  pub auths : List AuthReply

unfoldable pub raw_with_sessions : ℕ → List ℕ → Layout ReplyCut
raw_with_sessions n hs =
    field (λ c. length c.params) parameter_size (λ size.
    field (λ c. c.params) (raw size) (λ params.
    field (λ c. c.auths) reply_sessions (λ auths.
    done (record { code = n; handles = hs; params = params; auths = auths }))))

unfoldable pub raw_without_sessions : ℕ → List ℕ → Layout ReplyCut
raw_without_sessions n hs =
    field (λ c. c.params) remaining (λ params. done (record { code = n; handles = hs; params = params; auths = [] }))

abbrev pub cut_behind_code : CommandCode → ℕ → ℕ → Layout ReplyCut
cut_behind_code command t n = either (n == 0)
    (field (λ c. c.handles) (reply_handles command)
    (λ hs. either (t == 0x8002) (raw_with_sessions n hs) (raw_without_sessions n hs)))
    (done (record { code = n; handles = []; params = []; auths = [] }))

unfoldable pub reply_cut : CommandCode → Layout ReplyCut
reply_cut command =
    field (λ c. (if c.code == 0 then reply_tag c.auths else code_tag c.code, 10)) response_front (λ f.
    field (λ c. c.code) (response_code f.0) (λ n.
    cut_behind_code command f.0 n))

-- A response answers a command: a code answers any, and a reply its own.
abbrev pub RespondsTo : CommandCode → Response → Type 0
RespondsTo command (responses.Code n) = Unit {0}
RespondsTo command (responses.Done body auths) = command ≡ code_for_reply body
