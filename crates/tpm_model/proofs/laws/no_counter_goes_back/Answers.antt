use Rattle.tpm_model.proofs.Rising.{more_than_had, more_than_made}
use Rattle.tpm_model.proofs.laws.no_counter_goes_back.Goals as goal

pub returns : goal.returns
returns c = record { had = more_than_had; made = more_than_made }
