use Rattle.std.proofs.Common.{◌≡◌, ◌++◌, ◌+◌, ◌-◌, ◌≤◌, length, drop, true, []}
use Rattle.tpm_wire.specs.ResponseCodes.{of_session}
use Rattle.tpm_wire.specs.Reading.{read, entries}
use Rattle.tpm_wire.specs.Spelling.{joined_all}
use Rattle.tpm_types.specs.Tpms.{auth_response}
use Rattle.tpm_buffer.proofs.sessions.take_further_sessions.Given as goal

abbrev pub invariant-loop-auths : goal.invariant-loop-auths
invariant-loop-auths l = record {
  so_far : entries (2 - length (drop 1 l.auths.items)) (drop 1 l.auths.items) true (λ before. read (of_session (2 + length before)) auth_response) l.cursor.here
      ≡ entries 2 [] true (λ before. read (of_session (2 + length before)) auth_response) l.fn.cursor.here;
  few : length l.auths.items ≤ 3;
  some : 1 ≤ length l.auths.items;
  first : l.auths.items ≡ l.fn.auths.items ++ drop 1 l.auths.items;
  spelled : l.fn.cursor.here.rest ≡ joined_all auth_response (drop 1 l.auths.items) ++ l.cursor.here.rest;
}

abbrev pub decreases-loop-auths : goal.decreases-loop-auths
decreases-loop-auths l = 3 - length l.auths.items
