use Rattle.tpm_model.proofs.RoundTrip.{last_check, opens, keeps, stays}
use Rattle.tpm_model.proofs.Starting.{starts}
use Rattle.tpm_model.proofs.laws.in_step.Goals as goal

pub returns : goal.returns
returns c = record { starts = starts; passes = last_check; opens = opens; keeps = keeps; stays = stays }
