use Rattle.std.specs.Prelude.{◌≡◌, length}
use Rattle.tpm_pcr.specs.Banks.{value_at}
use Rattle.tpm_pcr.specs.inner.Banks.{Holds, filled_but_last}
use Rattle.tpm_pcr.proofs.Values.{with_first}
use Rattle.tpm_pcr.proofs.registers.fill_each.Given as goal

abbrev pub invariant-loop-alg : goal.invariant-loop-alg
invariant-loop-alg l = record {
  long : length l.bytes ≡ length l.fn.bytes;
  holds : Holds l.bytes (with_first l.alg-index l.register (filled_but_last l.byte l.last) (value_at l.fn.bytes));
}
