use Rattle.tpm_model.proofs.Lives.{own_reply_over, one_reply_over}
use Rattle.tpm_model.proofs.laws.no_mixed_replies_over_lives.Goals as goal

pub returns : goal.returns
returns c = record { own = own_reply_over; once = one_reply_over }
