use Rattle.tpm_script.proofs.Nonces.{differ, not_twice}
use Rattle.tpm_script.proofs.laws.no_replay_in_a_script.Goals as goal

pub returns-clause-differ : goal.returns-clause-differ
returns-clause-differ c = differ

pub returns-clause-no_replay : goal.returns-clause-no_replay
returns-clause-no_replay c = not_twice
