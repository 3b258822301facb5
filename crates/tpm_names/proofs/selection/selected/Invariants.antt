use Rattle.std.specs.Prelude.{◌≡◌, ◌<◌, ◌≤◌, ◌+◌, ℕ, false}
use Rattle.tpm_types.specs.Tpma.{is_set}
use Rattle.tpm_names.specs.Selections.{names}
use Rattle.tpm_names.proofs.selection.selected.Given as goal

-- the bits so far are set as the text says, and none above is
abbrev pub invariant-loop-bit : goal.invariant-loop-bit
invariant-loop-bit l = record {
  below : (i : ℕ) → i < l.bit → is_set i l.bits ≡ names l.text l.bank (l.first + i);
  above : (i : ℕ) → l.bit ≤ i → is_set i l.bits ≡ false;
}
