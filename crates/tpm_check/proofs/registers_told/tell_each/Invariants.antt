use Rattle.std.proofs.Common.{◌≡◌}
use Rattle.tpm_pcr.specs.Registers.{value_in}
use Rattle.tpm_output.specs.Telling.{first_told, told}
use Rattle.tpm_check.specs.CheckJson.{marks_of_register}
use Rattle.tpm_check.proofs.registers_told.tell_each.Given as goal

-- the registers so far
abbrev pub invariant-loop-number : goal.invariant-loop-number
invariant-loop-number g l =
    g.T.Teller.state l.out
    ≡ told g.T.Teller.tells (g.T.Teller.state l.initial.out)
    (first_told (marks_of_register l.registers.form (value_in l.registers.found.now.banks) l.bank) l.number)
