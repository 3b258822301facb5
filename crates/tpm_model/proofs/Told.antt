-- The code of the answer.
use Rattle.std.proofs.Common.{◌≡◌, ℕ, ◌<◌, ◌^◌, List, Ok, Err, refl, ap, ◌∙◌, arith}
use Rattle.tpm_wire.proofs.Numbers.{number_of-bytes}
use Rattle.tpm_buffer.specs.Responses.{response_tag, response_front, response_code, response}
use Rattle.tpm_buffer.specs.Commands.{command_size}
use Rattle.tpm_model.specs.Steps.{History, Origin}
use Rattle.tpm_model.specs.Present.{present}
use Rattle.tpm_model.specs.Answers.{Done, outcome, answered, answer}
use Rattle.tpm_model.specs.Premises.{code_in}
use Rattle.tpm_model.proofs.Refused.{refused_with}

pub zero_told : (d : Done) → code_in (answered (Ok d)) ≡ 0
unfolding response response_front response_tag response_code command_size
zero_told d = refl

code_told : (n : ℕ) → n < 256 ^ 4 → code_in (answered (Err n)) ≡ n
unfolding response response_front response_tag response_code command_size
code_told n small = number_of-bytes 4 n small

pub told_done : (o : Origin) (h : History) (bytes n : List ℕ) (d : Done) → outcome (present o h) bytes n ≡ Ok d → code_in (answer o h bytes n) ≡ 0
told_done o h bytes n d e = ap (λ x. code_in (answered x)) e ∙ zero_told d

pub told_refused : (o : Origin) (h : History) (bytes n : List ℕ) (code : ℕ) → outcome (present o h) bytes n ≡ Err code → code_in (answer o h bytes n) ≡ code
told_refused o h bytes n code e = ap (λ x. code_in (answered x)) e ∙ code_told code (omega (arith, (refused_with (present o h) bytes n code e).1))
