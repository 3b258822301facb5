use Rattle.std.proofs.Common.{sym, ◌∙◌}
use Rattle.tpm_model.specs.Callers.{waiting}
use Rattle.tpm_model.specs.Lives.{reply_to}
use Rattle.tpm_model.proofs.Lives.{own_reply_over, one_reply_over}
use Rattle.tpm_caller.proofs.Kept.{one_opened}
use Rattle.tpm_caller.proofs.laws.no_mixed_replies_over_lives.Goals as goal

pub returns : goal.returns
returns c = record {
  own = λ o lives seals openings x s w callers among given needs tried is.
      own_reply_over o lives seals openings x s w callers among given needs tried (sym (one_opened (waiting s) (reply_to x)) ∙ is);
  once = λ o lives seals openings xs ys zs x y s w v e differ callers given needs tried also is both.
      one_reply_over o lives seals openings xs ys zs x y s w v e differ callers given needs tried also
      (sym (one_opened (waiting s) (reply_to x)) ∙ is) (sym (one_opened (waiting s) (reply_to y)) ∙ both);
}
