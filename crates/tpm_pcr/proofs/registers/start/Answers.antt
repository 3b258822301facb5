use Rattle.std.proofs.Common.{◌∙◌}
use Rattle.tpm_pcr.proofs.Values.{zeros_at, starting_start}
use Rattle.tpm_pcr.proofs.registers.start.Goals as goal

pub loop-register-init : goal.loop-register-init
loop-register-init c = λ a q lt. zeros_at a q lt ∙ starting_start a q
