use Rattle.tpm_model.specs.Steps.{History, Origin}
use Rattle.tpm_device.specs.Stands.{Stands}
use Rattle.tpm_bench.proofs.device.prepared.Given as goal

abbrev pub invariant-loop : goal.invariant-loop
invariant-loop l = (o : Origin) × (h : History) × Stands o h l.device
