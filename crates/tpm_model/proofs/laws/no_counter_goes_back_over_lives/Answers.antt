use Rattle.tpm_model.proofs.Lives.{more_than_kept, more_than_first, more_than_none}
use Rattle.tpm_model.proofs.laws.no_counter_goes_back_over_lives.Goals as goal

pub returns : goal.returns
returns c = record { later = more_than_kept; had = more_than_first; made = more_than_none }
