use Rattle.tpm_model.proofs.Fair.{fair_new, fair_spelled, fair_after}
use Rattle.tpm_model.proofs.laws.nv_memory_stays_fair.Goals as goal

pub returns : goal.returns
returns c = record { new = fair_new; spelled = fair_spelled; stays = fair_after }
