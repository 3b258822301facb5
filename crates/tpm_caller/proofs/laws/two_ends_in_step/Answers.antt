use Rattle.std.proofs.Common.{◌∙◌}
use Rattle.tpm_model.specs.Answers.{answer}
use Rattle.tpm_model.specs.Callers.{waiting, sealed}
use Rattle.tpm_model.proofs.RoundTrip.{last_check, opens, keeps, stays}
use Rattle.tpm_model.proofs.Starting.{starts}
use Rattle.tpm_caller.proofs.Kept.{one_opened, one_given_up}
use Rattle.tpm_caller.proofs.laws.two_ends_in_step.Goals as goal

pub returns : goal.returns
returns c = record {
  starts = starts;
  passes = last_check;
  opens = λ o h s n d ready short whole e. one_opened (waiting s) (answer o h (sealed s) n) ∙ opens o h s n d ready short whole e;
  keeps = keeps;
  stays = λ o h s n code in_step e.
      let x = stays o h s n code in_step e in
      let bytes = answer o h (sealed s) n in
      (one_opened (waiting s) bytes ∙ x.0, one_given_up (waiting s) bytes ∙ x.1, x.2);
}
