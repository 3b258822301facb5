use Rattle.std.proofs.Common.{None, refl, inl, inr}
use Rattle.std.proofs.lemmas.Result.{IfOk-weaker}
use Rattle.tpm_show.specs.Areas.{command_rest}
use Rattle.tpm_show.specs.Refusals.{refused_told}
use Rattle.tpm_show.proofs.capture_frames.tell_command.Goals as goal

pub returns-in_ok-tell_command_rest-in-Ok : goal.returns-in_ok-tell_command_rest-in-Ok
returns-in_ok-tell_command_rest-in-Ok g c = (
  command_rest c.args.fields c.in-Ok.areas c.in-Ok.command.body,
  inl (refl, (c.in-Ok.command, c.in-Ok.areas, c.in-Ok.ensures.ok.0, c.in-Ok.ensures.ok.1, refl)),
  c.in_ok-tell_command_rest-in-Ok.ensures,
)

pub returns-in-Err : goal.returns-in-Err
returns-in-Err g c =
    let refusal = c.in-Err.refusal in
    IfOk-weaker c.tell_refused.result _ _ (λ status told. (
      refused_told None c.args.bytes.now refusal,
      inr (refusal, c.in-Err.ensures.err, told.0, refl),
      told.1,
    )) c.tell_refused.ensures
