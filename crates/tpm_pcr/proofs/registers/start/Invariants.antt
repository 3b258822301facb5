use Rattle.tpm_pcr.specs.inner.Banks.{Holds}
use Rattle.tpm_pcr.proofs.Values.{starting}
use Rattle.tpm_pcr.proofs.registers.start.Given as goal

abbrev pub invariant-loop-register : goal.invariant-loop-register
invariant-loop-register l = Holds l.bytes (starting l.register)
