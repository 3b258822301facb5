use Rattle.std.proofs.Common.{refl, sym, subst, inl, inr}
use Rattle.tpm_wire.specs.Path.{Fault}
use Rattle.tpm_quote.specs.Signatures.{signature}
use Rattle.tpm_c.proofs.Signing.{holds_signature}
use Rattle.tpm_c.proofs.signature.tpm_signature_decode.Goals as goal

pub returns-in-Ok : goal.returns-in-Ok
returns-in-Ok c = inl (
  refl,
  c.in-Ok.found,
  c.in-Ok.ensures.decodes,
  c.signature_view.ensures,
  holds_signature c.args.signature.now c.in-Ok.found c.in-Ok.ensures.spelled,
  refl,
)

pub returns-in-Err : goal.returns-in-Err
returns-in-Err c = inr (c.refuse.ensures.answer, subst (Fault signature c.args.signature.now) (sym c.refuse.ensures.fault) c.in-Err.ensures.decodes, refl)
