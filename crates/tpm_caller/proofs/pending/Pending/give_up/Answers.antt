use Rattle.std.proofs.Common.{◌≡◌, Bool, Option, Some, None, Result, Ok, sym, ap, ◌∙◌}
use Rattle.std.specs.Prelude.{if◌then◌else◌}
use Rattle.tpm_wire.specs.Buffers.{buffer}
use Rattle.tpm_wire.proofs.Buffers.{buffer_sound}
use Rattle.tpm_wire.proofs.Whole.{spells_read}
use Rattle.tpm_commands.specs.declared.response.Response.TheVariants as responses
use Rattle.tpm_buffer.specs.Responses.{response}
use Rattle.tpm_buffer.proofs.Answered.{code_spelled}
use Rattle.tpm_model.specs.InStep.{CallerSession}
use Rattle.tpm_model.specs.Callers.{Waiting, caller_of_refusal, given_up}
use Rattle.tpm_caller.specs.Faults.{giving_up_of}
use Rattle.tpm_caller.proofs.pending.Pending.give_up.Goals.{then-is_code-via-then-is_code}
use Rattle.tpm_caller.proofs.pending.Pending.give_up.Goals.{then-is_code-via-else-is_code+then-is_refused}
use Rattle.tpm_caller.proofs.pending.Pending.give_up.Goals as goal

abbrev okay : CallerSession → Result CallerSession Waiting
okay x = Ok x

abbrev given : CallerSession → Bool → Option CallerSession
given caller does = if does then Some caller else None

pub returns-then-is_code : goal.returns-then-is_code
returns-then-is_code c =
    let z = c.args.self in
    let bytes = c.args.refusal.now in
    let gives : given_up z bytes ≡ Some z.caller = elim c.then-is_code.branch [
      | then-is_code-via-then-is_code w ↦
          let f = c.is_code.ensures w.if-is_code.true in
          ap (caller_of_refusal z) (spells_read buffer buffer_sound (response z.code) bytes (responses.Code f.0) (code_spelled z.code f.0 bytes f.1 f.2 f.3))
      | then-is_code-via-else-is_code+then-is_refused w ↦ w.is_refused.ensures ∙ ap (given z.caller) w.if-is_refused.true
    ] in
    ap (λ (s : Waiting). okay s.caller) c.self.view_is ∙ sym (ap (giving_up_of z) gives)
