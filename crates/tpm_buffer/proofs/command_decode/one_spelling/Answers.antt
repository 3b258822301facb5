use Rattle.std.proofs.Common.{◌≡◌, List, ℕ, Result, subst, sym, ◌∙◌}
use Rattle.std.specs.Prelude.{IfOk}
use Rattle.tpm_wire.specs.declared.refusal.Refusal.{Refusal}
use Rattle.tpm_wire.specs.Spelling.{spelling}
use Rattle.tpm_wire.specs.Reading.{read_all}
use Rattle.tpm_wire.specs.Buffers.{buffer}
use Rattle.tpm_wire.specs.Path.{Spells}
use Rattle.tpm_wire.proofs.Buffers.{buffer_sound}
use Rattle.tpm_wire.proofs.Whole.{spells_read}
use Rattle.tpm_commands.specs.declared.command.Command.{Command}
use Rattle.tpm_buffer.specs.Commands.{command}
use Rattle.tpm_buffer.proofs.command_decode.one_spelling.Goals as goal

spelled : (bytes : List ℕ) (r : Result Command Refusal) (c : Command) → r ≡ read_all command bytes
    → IfOk r (λ c. bytes ≡ spelling command c) → Spells command c bytes → bytes ≡ spelling command c
spelled bytes r c is text s =
    subst (λ (o : Result Command Refusal). IfOk o (λ c. bytes ≡ spelling command c)) (is ∙ spells_read buffer buffer_sound command bytes c s) text

pub returns : goal.returns
returns c value s t =
    spelled c.args.a.now c.decode.new.answer value c.decode.ensures.reads c.decode.ensures.spelled s
    ∙ sym (spelled c.args.b.now c.decode-2.new.answer value c.decode-2.ensures.reads c.decode-2.ensures.spelled t)
