use Rattle.std.proofs.Common.{[], sym, ◌++◌, ◌∷◌, ◌∙◌}
use Rattle.tpm_model.specs.Answers.{answer}
use Rattle.tpm_model.specs.Callers.{waiting}
use Rattle.tpm_model.specs.Runs.Stimulus.{Given}
use Rattle.tpm_model.specs.Runs.{after}
use Rattle.tpm_model.proofs.Mixed.{own_reply_alone, one_reply_alone}
use Rattle.tpm_caller.proofs.Kept.{one_opened}
use Rattle.tpm_caller.proofs.laws.no_mixed_replies.Goals as goal

pub returns : goal.returns
returns c = record {
  own = λ o seals openings es fs bytes n s w of_callers among needs given e.
      own_reply_alone o seals openings es fs bytes n s w of_callers among needs given (sym (one_opened (waiting s) (answer o (after o [] es) bytes n)) ∙ e);
  once = λ o seals openings es fs gs bytes other n m s w v differ of_callers among needs one two e f.
      one_reply_alone o seals openings es fs gs bytes other n m s w v differ of_callers among needs one two
      (sym (one_opened (waiting s) (answer o (after o [] es) bytes n)) ∙ e)
      (sym (one_opened (waiting s) (answer o (after o [] (es ++ Given bytes n ∷ fs)) other m)) ∙ f);
}
