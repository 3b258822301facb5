use Rattle.std.proofs.Common.{Some, refl, inr}
use Rattle.std.proofs.lemmas.Result.{IfOk-weaker}
use Rattle.tpm_show.specs.Refusals.{refused_told}
use Rattle.tpm_show.proofs.capture_frames.tell_reply_to.Goals as goal

pub returns-in-Err : goal.returns-in-Err
returns-in-Err g c =
    let refusal = c.in-Err.refusal in
    IfOk-weaker c.tell_refused.result _ _ (λ status told. (
      refused_told (Some c.args.command) c.args.bytes.now refusal,
      inr (refusal, c.in-Err.ensures.err, told.0, refl),
      told.1,
    )) c.tell_refused.ensures
