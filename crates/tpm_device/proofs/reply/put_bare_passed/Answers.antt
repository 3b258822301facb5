use Rattle.std.proofs.Common.{List, ℕ, ◌∷◌, [], ◌++◌, ap, ◌∙◌}
use Rattle.std.proofs.lemmas.List.{nil_from_length}
use Rattle.tpm_buffer.specs.Responses.{response, response_front, response_tag, response_code, with_sessions}
use Rattle.tpm_buffer.specs.Responses.{without_sessions, parameter_size, reply_sessions, further_sessions}
use Rattle.tpm_buffer.specs.Commands.{command_size}
use Rattle.tpm_wire.specs.Structures.{sized_bytes}
use Rattle.tpm_types.specs.Tpma.{session_attrs}
use Rattle.tpm_types.specs.Tpms.{auth_response}
use Rattle.tpm_device.proofs.reply.put_bare_passed.Goals as goal

pub returns : goal.returns
unfolding response response_front response_tag response_code command_size with_sessions without_sessions parameter_size reply_sessions further_sessions
    auth_response sized_bytes session_attrs
returns c = c.put_bytes.ensures ∙ ap (λ (l : List ℕ). l ++ 0x80 ∷ 0x02 ∷ 0 ∷ 0 ∷ 0 ∷ 19 ∷ 0 ∷ 0 ∷ 0 ∷ 0 ∷ 0 ∷ 0 ∷ 0 ∷ 0 ∷ 0 ∷ 0 ∷ 0x01 ∷ 0 ∷ 0 ∷ [])
    (nil_from_length c.args.out.now.items c.requires)
