use Rattle.tpm_model.proofs.Mixed.{own_reply_alone, one_reply_alone}
use Rattle.tpm_model.proofs.laws.no_mixed_replies.Goals as goal

pub returns : goal.returns
returns c = record { own = own_reply_alone; once = one_reply_alone }
