use Rattle.std.specs.Prelude.{◌≡◌, length, take}
use Rattle.tpm_pcr.specs.Registers.Change.{Extend}
use Rattle.tpm_pcr.specs.inner.Banks.{Holds, changed}
use Rattle.tpm_pcr.proofs.registers.extend.Given as goal

abbrev pub invariant-loop-entry : goal.invariant-loop-entry
invariant-loop-entry l = record {
  long : length l.bytes ≡ length l.fn.bytes;
  holds : Holds l.bytes (changed (Extend l.register (take l.entry-index l.digests)) l.fn.bytes);
}
