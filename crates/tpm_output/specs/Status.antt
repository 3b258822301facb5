-- The statuses of the program (this profile): 0 for done, 1 for refused or a mismatch.
use Rattle.std.specs.Prelude.{ℕ}
use Rattle.tpm_output.specs.declared.status.Status.TheVariants.{Done, Refused}
use Rattle.tpm_output.specs.declared.status.Status.{Status}

abbrev pub status_number : Status → ℕ
status_number Done = 0
status_number Refused = 1

-- Done where both are
abbrev pub both : Status → Status → Status
both Done other = other
both Refused other = Refused
