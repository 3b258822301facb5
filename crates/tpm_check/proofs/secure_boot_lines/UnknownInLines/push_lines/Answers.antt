use Rattle.std.proofs.Common.{append_assoc}
use Rattle.tpm_check.specs.SecureBootLines.{unknown_line}
use Rattle.tpm_check.proofs.secure_boot_lines.UnknownInLines.push_lines.Goals as goal

pub returns : goal.returns
unfolding unknown_line
returns c = simp (c.name-bank.ensures, c.fault_name-kind.ensures, append_assoc) at c.writeln.ensures.bytes
