-- What the commands answer (Part 3, the response table of each).
use Rattle.std.specs.Prelude.{◌≡◌, ℕ, List, [], ◌∷◌, Option, Some, None}
use Rattle.tpm_wire.specs.Buffers.{Layout}
use Rattle.tpm_wire.specs.Layout.Form.{done}
use Rattle.tpm_types.specs.declared.command_code.CommandCode.{CommandCode}
use Rattle.tpm_commands.specs.declared.command.ReplyBody.{ReplyBody}
use Rattle.tpm_commands.specs.Commands.Session.{session_handle}
use Rattle.tpm_commands.specs.Table.{row}
use Rattle.tpm_types.specs.declared.command_code.CommandCode.TheVariants as codes
use Rattle.tpm_commands.specs.declared.command.ReplyBody.TheVariants as replies
pub use Rattle.tpm_commands.specs.Table.{code_for_reply}

-- the handle of each reply: TPM2_StartAuthSession's alone
abbrev pub reply_handles : CommandCode → Layout (List ℕ)
reply_handles codes.StartAuthSession = session_handle
reply_handles _ = done []

abbrev pub reply_handles_of : ReplyBody → List ℕ
reply_handles_of (replies.StartAuthSession reply) = reply.session ∷ []
reply_handles_of _ = []

-- the reply with this handle
abbrev pub reply_parameters : CommandCode → List ℕ → Layout ReplyBody
reply_parameters code hs = (row code).reply hs

-- the parameters of this reply
abbrev pub parameters_of_reply : ReplyBody → Layout ReplyBody
parameters_of_reply body = reply_parameters (code_for_reply body) (reply_handles_of body)

-- ---- a handle that was read before the parameters

abbrev pub handle_list : Option ℕ → List ℕ
handle_list None = []
handle_list (Some n) = n ∷ []

-- There is a handle for a command whose response has one, and for no other.
abbrev pub HasHandle : CommandCode → Option ℕ → Type 0
HasHandle codes.StartAuthSession None = ⊥
HasHandle codes.StartAuthSession (Some n) = Unit {0}
HasHandle code None = Unit {0}
HasHandle code (Some n) = ⊥

-- The reply is to this command, and has this handle.
abbrev pub IsReplyTo : CommandCode → Option ℕ → ReplyBody → Type 0
IsReplyTo code handle body = (code_for_reply body ≡ code) × (reply_handles_of body ≡ handle_list handle)
