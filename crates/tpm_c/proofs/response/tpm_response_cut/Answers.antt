use Rattle.std.proofs.Common.{refl, sym, subst, inl, inr}
use Rattle.tpm_wire.specs.Path.{Fault}
use Rattle.tpm_buffer.specs.Responses.{reply_cut}
use Rattle.tpm_c.proofs.HeldReplies.{holds_parts}
use Rattle.tpm_c.proofs.response.tpm_response_cut.Goals as goal

pub returns-in-Ok : goal.returns-in-Ok
returns-in-Ok c =
    let code = c.in-Some.code in
    let cut = (c.in-Ok.ensures.ok c.in-Ok.areas).0 refl in
    inl (
      refl,
      code,
      sym c.in-Some.ensures,
      c.in-Ok.areas,
      cut,
      c.areas_view.ensures,
      holds_parts code c.args.bytes.now c.in-Ok.areas cut c.in-Ok.ensures.place,
      refl,
    )

pub returns-in-Err : goal.returns-in-Err
returns-in-Err c =
    let code = c.in-Some.code in
    let fault = subst (Fault (reply_cut code) c.args.bytes.now) (sym c.refuse.ensures.fault) ((c.in-Err.ensures.err c.in-Err.fault).0 refl) in
    inr (inl (c.refuse.ensures.answer, (code, sym c.in-Some.ensures, fault), refl))
