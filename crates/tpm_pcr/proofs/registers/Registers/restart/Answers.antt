use Rattle.std.proofs.Common.{[], ◌∷◌, refl}
use Rattle.tpm_pcr.specs.Registers.Change.{Restart}
use Rattle.tpm_pcr.proofs.Stands.{started_stands}
use Rattle.tpm_pcr.proofs.registers.Registers.restart.Goals as goal

pub returns-clause-new : goal.returns-clause-new
returns-clause-new c = started_stands [] c.start.new.bytes c.start.ensures refl

pub returns-clause-restarted : goal.returns-clause-restarted
returns-clause-restarted c = λ cs. started_stands (Restart ∷ cs) c.start.new.bytes c.start.ensures refl
