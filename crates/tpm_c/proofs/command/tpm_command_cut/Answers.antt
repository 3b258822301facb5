use Rattle.std.proofs.Common.{refl, sym, subst, inl, inr}
use Rattle.tpm_wire.specs.Layout.{cut}
use Rattle.tpm_wire.specs.Path.{Fault}
use Rattle.tpm_buffer.specs.Commands.{before_params}
use Rattle.tpm_c.proofs.Held.{holds_parts}
use Rattle.tpm_c.proofs.command.tpm_command_cut.Goals as goal

pub returns-in-Ok : goal.returns-in-Ok
returns-in-Ok c =
    let cut = (c.in-Ok.ensures.ok c.in-Ok.areas).0 refl in
    inl (refl, c.in-Ok.areas, cut, c.areas_view.ensures, holds_parts c.args.bytes.now c.in-Ok.areas c.in-Ok.ensures.spelled cut.1, refl)

pub returns-in-Err : goal.returns-in-Err
returns-in-Err c = inr (
  c.refuse.ensures.answer,
  subst (Fault (cut before_params) c.args.bytes.now)
      (sym c.refuse.ensures.fault) ((c.in-Err.ensures.err c.in-Err.fault).0 refl),
  refl,
)
