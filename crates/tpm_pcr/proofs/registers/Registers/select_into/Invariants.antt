use Rattle.std.specs.Prelude.{◌≡◌, length, take}
use Rattle.tpm_pcr.specs.Registers.{selections_read, values_read}
use Rattle.tpm_pcr.specs.Banks.{value_at}
use Rattle.tpm_pcr.proofs.registers.Registers.select_into.Given as goal

abbrev pub invariant-loop-selection : goal.invariant-loop-selection
invariant-loop-selection l = record {
  read : l.read ≡ selections_read (take l.selection-index l.selections);
  count : length l.read ≡ l.selection-index;
  values : l.values ≡ values_read (value_at l.self-inside.bytes) (take l.selection-index l.selections);
}
