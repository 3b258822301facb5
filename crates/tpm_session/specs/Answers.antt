-- What the calls answer and make of a session, beside what the commands do.
use Rattle.std.specs.Prelude.{ℕ, Result, Ok, Err}
use Rattle.tpm_commands.specs.declared.response.StartReply.{StartReply}
use Rattle.tpm_commands.specs.declared.command.ReplyBody.{ReplyBody}
use Rattle.tpm_commands.specs.declared.command.ReplyBody.TheVariants as replies

-- the answer of TPM2_StartAuthSession, as that of a command
abbrev pub started_reply : Result StartReply ℕ → Result ReplyBody ℕ
started_reply (Ok reply) = Ok (replies.StartAuthSession reply)
started_reply (Err code) = Err code
