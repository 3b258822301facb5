use Rattle.std.proofs.Common.{refl, sym, subst, inl, inr}
use Rattle.tpm_wire.specs.Path.{Fault}
use Rattle.tpm_buffer.specs.Commands.{command}
use Rattle.tpm_c.proofs.command.tpm_command_decode.Goals as goal

pub returns-in-Ok : goal.returns-in-Ok
returns-in-Ok c = inl (refl, c.in-Ok.ensures.spells, refl)

pub returns-in-Err : goal.returns-in-Err
returns-in-Err c = inr (
  c.refuse.ensures.answer,
  subst (Fault command c.args.bytes.now) (sym c.refuse.ensures.fault) c.in-Err.ensures.fault,
)
