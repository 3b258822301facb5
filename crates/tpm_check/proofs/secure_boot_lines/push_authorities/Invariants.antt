use Rattle.std.proofs.Common.{◌≡◌, ◌≤◌, ◌+◌, ◌++◌, map, string_bytes}
use Rattle.tpm_event_data.specs.Events.{records_size}
use Rattle.tpm_log.specs.Events.{shown}
use Rattle.tpm_check.specs.SecureBootLines.{authorities_from, authorities_in, authority_line}
use Rattle.tpm_check.proofs.secure_boot_lines.push_authorities.Given as goal

-- What was added, and the authorities that are left, are all.
abbrev pub invariant-loop-event : goal.invariant-loop-event
invariant-loop-event l = record {
  place : l.at + records_size l.event-iterator ≡ l.log.size;
  within : l.log.size ≤ 16777216;
  text : string_bytes l.text ++ authorities_from authority_line l.bank l.at l.event-iterator
      ≡ string_bytes l.initial.text ++ authorities_in authority_line l.bank l.log.size (map shown l.log.records);
}
