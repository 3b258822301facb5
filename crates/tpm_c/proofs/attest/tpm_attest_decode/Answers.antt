use Rattle.std.proofs.Common.{refl, sym, subst, inl, inr}
use Rattle.tpm_wire.specs.Path.{Fault}
use Rattle.tpm_types.specs.Attest.{attest}
use Rattle.tpm_c.proofs.Quoting.{holds_attest}
use Rattle.tpm_c.proofs.attest.tpm_attest_decode.Goals as goal

pub returns-in-Ok : goal.returns-in-Ok
returns-in-Ok c = inl (
  refl,
  c.in-Ok.attest,
  c.in-Ok.ensures.decodes,
  c.attest_view.ensures,
  holds_attest c.args.attest.now c.in-Ok.attest c.in-Ok.ensures.spelled,
  refl,
)

pub returns-in-Err : goal.returns-in-Err
returns-in-Err c = inr (c.refuse.ensures.answer, subst (Fault attest c.args.attest.now) (sym c.refuse.ensures.fault) c.in-Err.ensures.decodes, refl)
