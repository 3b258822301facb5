use Rattle.std.proofs.Common.{ℕ, sym, ap, ◌∙◌}
use Rattle.arrayvec.specs.ArrayVec.{ArrayVec}
use Rattle.tpm_model.specs.Present.{Present}
use Rattle.tpm_model.specs.Answers.{answered, outcome}
use Rattle.tpm_device.specs.Stands.{holds}
use Rattle.tpm_device.proofs.Own.{own_done}
use Rattle.tpm_device.proofs.Passing.{reply_told}
use Rattle.tpm_device.proofs.device.Device.execute_into.Goals.{in-Err, in_default}
use Rattle.tpm_device.proofs.device.Device.execute_into.Goals as goal

pub returns-clause-answer : goal.returns-clause-answer
returns-clause-answer c = λ o h st.
    let p = holds c.args.self.now in
    let n = c.args.nonce.now in
    elim c.match-outcome.branch [
      | in-Err w ↦ ap (λ (v : ArrayVec ℕ). v.items) w.out-is ∙ w.put_refusal.ensures ∙ ap answered (sym w.in-Err.ensures.refuses)
      | in_default w ↦ ap (λ (v : ArrayVec ℕ). v.items) w.out-is
          ∙ reply_told (outcome p c.args.bytes.now n) c.outcome.new.out.items (own_done p c.args.bytes.now n) (w.in_default.ensures.answer o h st)
    ]
    ∙ ap (λ (q : Present). answered (outcome q c.args.bytes.now n)) st
