use Rattle.std.proofs.Common.{refl}
use Rattle.tpm_model.proofs.Restored.{restored_stands, restored_after, run_goes_on, history_goes_on}
use Rattle.tpm_model.proofs.laws.restored_is_cycled.Goals as goal

pub returns : goal.returns
returns c = record {
  stands = restored_stands;
  begins = λ owner nv. refl;
  runs = λ o es fs nv bytes kept read. (restored_after o es nv bytes kept read, run_goes_on o es fs, history_goes_on o es fs);
}
