-- What contracts see of a response whose parameters are not judged.
use Rattle.std.specs.Prelude.{◌≡◌, ℕ, ◌+◌, ◌*◌, List, [], length, take, drop, Option, slice_get, ◌==◌, if◌then◌else◌}
use Rattle.tpm_wire.specs.Path.{Spells}
use Rattle.tpm_types.specs.declared.tpms.AuthReply.{AuthReply}
use Rattle.tpm_commands.specs.declared.command.ReplyBody.{ReplyBody}
use Rattle.tpm_commands.specs.declared.response.Response.{Response}
use Rattle.tpm_commands.specs.Replies.{reply_handles_of, parameters_of_reply}
use Rattle.tpm_commands.specs.declared.response.Response.TheVariants as responses
use Rattle.tpm_buffer.specs.Responses.{ReplyCut}

-- the handle, where there is one
abbrev pub handle_of : ReplyCut → Option ℕ
handle_of c = slice_get c.handles 0

-- how many bytes are before the parameters: the header, the handle, and parameterSize where there are sessions
abbrev pub place_behind : List ℕ → List AuthReply → ℕ
place_behind hs auths = 10 + 4 * length hs + (if length auths == 0 then 0 else 4)

abbrev pub place_of_params : ReplyCut → ℕ
place_of_params c = place_behind c.handles c.auths

-- The parameters are those bytes of the response that begin at their place.
abbrev pub HasItsParams : List ℕ → ReplyCut → Type 0
HasItsParams bytes c = c.params ≡ take (length c.params) (drop (place_of_params c) bytes)

-- ---- a response and its cut

-- The cut of a reply has its handle, its sessions, and bytes that spell its parameters.
pub record IsReplyCut (body : ReplyBody) (auths : List AuthReply) (c : ReplyCut) : Type 0 where
  pub code_is : c.code ≡ 0
  pub handles_are : c.handles ≡ reply_handles_of body
  pub spells_params : Spells (parameters_of_reply body) body c.params
  pub auths_are : c.auths ≡ auths

-- The cut is that of this response: of a nonzero code it has the code alone.
abbrev pub IsCutOf : Response → ReplyCut → Type 0
IsCutOf (responses.Code n) c = c ≡ record { code = n; handles = []; params = []; auths = [] }
IsCutOf (responses.Done body auths) c = IsReplyCut body auths.items c
