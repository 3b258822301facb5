use Rattle.std.proofs.Common.{◌≡◌, ◌++◌, ◌+◌, ◌-◌, ◌≤◌, length, true, []}
use Rattle.tpm_wire.specs.ResponseCodes.{of_session}
use Rattle.tpm_wire.specs.Reading.{read, entries}
use Rattle.tpm_wire.specs.Spelling.{joined_all}
use Rattle.tpm_types.specs.Tpms.{auth_command}
use Rattle.tpm_buffer.proofs.sessions.ArrayVecAuthRef3SessionList.read_sessions.Given as goal

abbrev pub invariant-loop-self : goal.invariant-loop-self
invariant-loop-self l = record {
  so_far : entries (3 - length l.self.items) l.self.items true (λ before. read (of_session (1 + length before)) auth_command) l.cursor.here
      ≡ entries 3 [] true (λ before. read (of_session (1 + length before)) auth_command) l.fn.cursor.here;
  few : length l.self.items ≤ 3;
  spelled : l.fn.cursor.here.rest ≡ joined_all auth_command l.self.items ++ l.cursor.here.rest;
}

abbrev pub decreases-loop-self : goal.decreases-loop-self
decreases-loop-self l = 3 - length l.self.items
