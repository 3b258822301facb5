-- Replies without parameters.
use Rattle.std.proofs.Common.{◌≡◌, true, List, [], ◌∷◌, refl}
use Rattle.tpm_types.specs.declared.tpms.AuthReply.{AuthReply}
use Rattle.tpm_commands.specs.declared.command.ReplyBody.{ReplyBody}
use Rattle.tpm_commands.specs.declared.command.ReplyBody.TheVariants as replies
use Rattle.tpm_buffer.specs.Responses.{response, response_front, response_tag, response_code, with_sessions}
use Rattle.tpm_buffer.specs.Responses.{without_sessions, parameter_size}
use Rattle.tpm_buffer.specs.Commands.{command_size}
use Rattle.tpm_model.specs.Answers.{reply_params}
use Rattle.tpm_device.specs.inner.Answers.{any_bare, is_bare, reply_bytes}

-- All have the same bytes.
pub same_bytes : (body : ReplyBody) (auths : List AuthReply) → is_bare body ≡ true →
    reply_bytes (record { body = any_bare; auths = auths }) ≡ reply_bytes (record { body = body; auths = auths })
unfolding response response_front response_tag response_code command_size with_sessions without_sessions parameter_size
same_bytes replies.Startup [] is = refl
same_bytes replies.Startup (a ∷ others) is = refl
same_bytes _ [] is = cc
same_bytes _ (a ∷ others) is = cc

-- what is hashed of their parameters
pub bare_params : (body : ReplyBody) → is_bare body ≡ true → [] ≡ reply_params body
bare_params replies.Startup is = refl
bare_params _ is = cc
