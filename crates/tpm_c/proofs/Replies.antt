-- What a device answers has a header at least.
use Rattle.std.proofs.Common.{◌≡◌, ℕ, ◌≤◌, List, length, Result, Ok, Err, true, refl, ap, arith, length-append}
use Rattle.std.proofs.lemmas.Bool.{le-leb}
use Rattle.std.specs.Prelude.{nat_le}
use Rattle.tpm_wire.specs.Spelling.{spelling}
use Rattle.tpm_types.specs.declared.command_code.CommandCode.{CommandCode}
use Rattle.tpm_commands.specs.declared.response.Response.{Response}
use Rattle.tpm_types.specs.declared.command_code.CommandCode.TheVariants as codes
use Rattle.tpm_commands.specs.declared.response.Response.TheVariants as responses
use Rattle.tpm_buffer.specs.Commands.{command_size, code_for}
use Rattle.tpm_buffer.specs.Responses.{response_tag, response_front, response_code, response, done_with}
use Rattle.tpm_model.specs.Steps.{History, Origin}
use Rattle.tpm_model.specs.Present.{present}
use Rattle.tpm_model.specs.Answers.{Done, outcome, answered, answer}
use Rattle.tpm_c.specs.Devices.{Input, written, IsAnswered}
use Rattle.tpm_c.specs.Written.{IsIn}

response_long : (code : CommandCode) (r : Response) → 10 ≤ length (spelling (response code) r)
unfolding response response_front response_tag command_size response_code
response_long code r = simp length-append (omega arith)

answer_long : (r : Result Done ℕ) → 10 ≤ length (answered r)
answer_long (Ok d) = response_long (code_for d.command.body) (done_with d.reply)
answer_long (Err code) = response_long codes.Startup (responses.Code code)

pub is_answered : (o : Origin) (h : History) (input : Input) (old new : List ℕ) (count : ℕ)
    → IsIn (written (length old) o h input) old new count → IsAnswered o h input (record { answer = count; old = old; new = new })
is_answered o h input old new count i = (
  i,
  λ room.
      let there : nat_le 4096 (length old) ≡ true = le-leb 4096 (length old) room in
      let is : written (length old) o h input ≡ answer o h input.bytes input.nonce = rw there refl in
      omega (arith, i.count_is, ap length is, answer_long (outcome (present o h) input.bytes input.nonce)),
)
