use Rattle.tpm_model.proofs.Refused.{refused_with}
use Rattle.tpm_model.proofs.Told.{told_refused}
use Rattle.tpm_model.proofs.laws.refused_with_a_code.Goals as goal

pub returns : goal.returns
returns c = record { some = refused_with; answered = told_refused }
