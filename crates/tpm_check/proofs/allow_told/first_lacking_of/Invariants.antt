use Rattle.std.proofs.Common.{◌≡◌, None, find, take}
use Rattle.tpm_pcr.specs.Registers.{all_registers}
use Rattle.tpm_check.specs.AllowTold.{is_lacking}
use Rattle.tpm_check.proofs.allow_told.first_lacking_of.Given as goal

-- none so far
abbrev pub invariant-loop-number : goal.invariant-loop-number
invariant-loop-number l = find (is_lacking l.list l.quoted l.bank) (take l.number all_registers) ≡ None
