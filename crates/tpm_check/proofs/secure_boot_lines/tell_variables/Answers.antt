use Rattle.tpm_output.proofs.Telling.{told_both}
use Rattle.tpm_check.specs.SecureBootLines.{marks_of_variables}
use Rattle.tpm_check.proofs.secure_boot_lines.tell_variables.Goals as goal

pub returns : goal.returns
unfolding marks_of_variables
returns g c =
    simp told_both (simp (c.in_ok-tell_variable-3.ensures, c.in_ok-tell_variable-2.ensures, c.in_ok-tell_variable.ensures) at c.tell_variable-4.ensures)
