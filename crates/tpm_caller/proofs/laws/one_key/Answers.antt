use Rattle.tpm_caller.proofs.Kept.{one_opened, one_given_up}
use Rattle.tpm_caller.proofs.laws.one_key.Goals as goal

pub returns : goal.returns
returns c = record { opened = one_opened; given_up = one_given_up }
