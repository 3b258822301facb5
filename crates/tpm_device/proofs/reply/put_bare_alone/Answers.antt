use Rattle.std.proofs.Common.{List, ℕ, ◌∷◌, [], ◌++◌, ap, ◌∙◌}
use Rattle.std.proofs.lemmas.List.{nil_from_length}
use Rattle.tpm_buffer.specs.Responses.{response, response_front, response_tag, response_code, without_sessions}
use Rattle.tpm_buffer.specs.Commands.{command_size}
use Rattle.tpm_device.proofs.reply.put_bare_alone.Goals as goal

pub returns : goal.returns
unfolding response response_front response_tag response_code command_size without_sessions
returns c = c.put_bytes.ensures ∙ ap (λ (l : List ℕ). l ++ 0x80 ∷ 0x01 ∷ 0 ∷ 0 ∷ 0 ∷ 10 ∷ 0 ∷ 0 ∷ 0 ∷ 0 ∷ []) (nil_from_length c.args.out.now.items c.requires)
