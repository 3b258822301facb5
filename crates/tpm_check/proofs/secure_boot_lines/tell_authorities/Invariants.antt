use Rattle.std.proofs.Common.{◌≡◌, ◌≤◌, ◌+◌, map}
use Rattle.tpm_event_data.specs.Events.{records_size}
use Rattle.tpm_log.specs.Events.{shown}
use Rattle.tpm_output.specs.Telling.{told}
use Rattle.tpm_check.specs.SecureBootLines.{authorities_from, authorities_in, marks_of_authority}
use Rattle.tpm_check.proofs.secure_boot_lines.tell_authorities.Given as goal

-- What was told, and the authorities that are left, are all.
abbrev pub invariant-loop-event : goal.invariant-loop-event
invariant-loop-event g l = let tells = g.T.Teller.tells in record {
  place : l.at + records_size l.event-iterator ≡ l.log.size;
  within : l.log.size ≤ 16777216;
  told : told tells (g.T.Teller.state l.out) (authorities_from marks_of_authority l.bank l.at l.event-iterator)
      ≡ told tells (g.T.Teller.state l.initial.out)
      (authorities_in marks_of_authority l.bank l.log.size (map shown l.log.records));
}
