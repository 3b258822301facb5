use Rattle.std.specs.Prelude.{◌≡◌, ◌≤◌, ◌*◌, length, map, take}
use Rattle.tpm_pcr.specs.Registers.{selected_values}
use Rattle.tpm_pcr.specs.Banks.{registers, value_at}
use Rattle.tpm_pcr.proofs.registers.Registers.composite.Given as goal

abbrev pub invariant-loop-selection : goal.invariant-loop-selection
invariant-loop-selection l = record {
  parts : map (λ p. p.now) l.parts.items ≡ selected_values (value_at l.self-inside.bytes) (take l.selection-index l.selections);
  count : length l.parts.items ≤ l.selection-index * registers;
}
