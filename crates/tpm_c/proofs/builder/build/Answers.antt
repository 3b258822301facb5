use Rattle.std.proofs.Common.{refl, sym, subst, inl, inr, arith}
use Rattle.tpm_wire.specs.Path.{Fault}
use Rattle.tpm_buffer.specs.Commands.{command}
use Rattle.tpm_c.proofs.builder.build.Goals as goal

pub returns-in-Ok : goal.returns-in-Ok
returns-in-Ok c = inr (inr (refl, c.in-Ok.ensures.spells, omega (arith, c.len-len.ensures.value), refl))

pub returns-in-Ok-2 : goal.returns-in-Ok-2
returns-in-Ok-2 c = inl (refl, c.in-Ok-2.ensures.spells, c.write.ensures, refl)

pub returns-in-Err : goal.returns-in-Err
returns-in-Err c =
    let fault = subst (Fault command c.args.parts.now) (sym c.refuse.ensures.fault) c.in-Err.ensures.fault in
    inr (inl (c.refuse.ensures.answer, inr (omega (arith, c.len-len.ensures.value, c.len-len.ensures.fits), fault), refl, refl))
