use Rattle.std.specs.Prelude.{◌≡◌, ◌≤◌, ◌+◌, ◌++◌, length, map, take, filter}
use Rattle.tpm_types.specs.Tpms.{is_selected}
use Rattle.tpm_pcr.specs.Registers.{all_registers}
use Rattle.tpm_pcr.specs.Banks.{value_at}
use Rattle.tpm_pcr.proofs.registers.lend_selected.Given as goal

abbrev pub invariant-loop-register : goal.invariant-loop-register
invariant-loop-register l = record {
  parts : map (λ p. p.now) l.parts.items
      ≡ map (λ p. p.now) l.fn.parts.items ++ map (value_at l.bytes l.selection.hash) (filter (is_selected l.selection.select) (take l.register all_registers));
  count : length l.parts.items ≤ length l.fn.parts.items + l.register;
}
