use Rattle.std.proofs.Common.{sym, ap, ◌∙◌, ◌++◌, ◌∷◌, [], ◌≡◌, ◌+◌, length, true, false, arith, eqb, length-append}
use Rattle.std.proofs.lemmas.Bool.{ne_eqb}
use Rattle.tpm_wire.specs.ResponseCodes.{of_session}
use Rattle.tpm_wire.specs.Spelling.{spelling}
use Rattle.tpm_wire.specs.Reading.{read}
use Rattle.tpm_wire.specs.Buffers.{Place}
use Rattle.tpm_wire.proofs.Loop.{at_place, goes_on, joined_push}
use Rattle.tpm_types.specs.Tpms.{auth_command}
use Rattle.tpm_buffer.proofs.sessions.ArrayVecAuthRef3SessionList.read_sessions.Goals as goal

pub loop-self-preserved : goal.loop-self-preserved
loop-self-preserved c =
    let items = c.loop-self.self.items in
    let here = c.loop-self.cursor.here in
    let x = c.in_ok-session.session in
    let g = c.take.new.cursor.here in
    let is =
    at_place auth_command c.number.new.self here _ (of_session (1 + length items)) _ c.number.ensures
    (omega (arith, c.len.ensures.value)) c.in_ok-session.ensures.reads.0 in
    let more : eqb (length here.rest) 0 ≡ false = ne_eqb (length here.rest) 0 (λ e. omega (arith, e)) in
    let len : length (items ++ x ∷ []) ≡ length items + 1 = length-append items (x ∷ []) in
    let text : here.rest ≡ spelling auth_command x ++ g.rest = sym (ap (λ (p : Place). p.here.rest) c.number.ensures) ∙ c.in_ok-session.ensures.spelled in
    record {
      so_far =
          rw (c.push.ensures.items, len)
          (goes_on (λ before. read (of_session (1 + length before)) auth_command) true items 3 (length items) here g x _
          (omega arith) more is c.loop-self.invariant.so_far);
      few = rw c.push.ensures.items (omega (arith, len));
      spelled = rw c.push.ensures.items (joined_push auth_command _ here.rest g.rest items x c.loop-self.invariant.spelled text);
    }
