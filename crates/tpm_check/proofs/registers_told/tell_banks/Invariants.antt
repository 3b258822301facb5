use Rattle.std.proofs.Common.{◌≡◌, take}
use Rattle.std.specs.List.{flat_map}
use Rattle.tpm_pcr.specs.Registers.{value_in}
use Rattle.tpm_output.specs.Telling.{told}
use Rattle.tpm_check.specs.CheckJson.{marks_of_bank}
use Rattle.tpm_check.proofs.registers_told.tell_banks.Given as goal

-- the banks so far
abbrev pub invariant-loop-bank : goal.invariant-loop-bank
invariant-loop-bank g l =
    g.T.Teller.state l.out
    ≡ told g.T.Teller.tells (g.T.Teller.state l.initial.out)
    (flat_map (marks_of_bank l.registers.form (value_in l.registers.found.now.banks)) (take l.bank-index l.banks))
