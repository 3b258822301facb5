use Rattle.tpm_model.proofs.NvChanges.{changes_told}
use Rattle.tpm_model.proofs.laws.nv_changes_are_told.Goals as goal

pub returns : goal.returns
returns c = changes_told
