use Rattle.std.proofs.Common.{sym, ap, ◌∙◌, ◌++◌, ◌∷◌, [], ◌≡◌, ◌+◌, List, length, drop, true, false, arith, eqb}
use Rattle.std.proofs.Common.{append_assoc}
use Rattle.std.proofs.lemmas.Bool.{ne_eqb}
use Rattle.std.proofs.lemmas.List.{length-append, length-drop, drop-append-le}
use Rattle.tpm_wire.specs.ResponseCodes.{of_session}
use Rattle.tpm_wire.specs.Spelling.{spelling}
use Rattle.tpm_wire.specs.Reading.{read}
use Rattle.tpm_wire.specs.Buffers.{Place}
use Rattle.tpm_wire.proofs.Loop.{at_place, goes_on, joined_push}
use Rattle.tpm_types.specs.declared.tpms.AuthReply.{AuthReply}
use Rattle.tpm_types.specs.Tpms.{auth_response}
use Rattle.tpm_buffer.proofs.sessions.take_further_sessions.Goals as goal

pub loop-auths-preserved : goal.loop-auths-preserved
loop-auths-preserved c =
    let items = c.loop-auths.auths.items in
    let others = drop 1 items in
    let here = c.loop-auths.cursor.here in
    let after = c.take.new.cursor.here in
    let a = c.in_ok-session.session in
    let count = length-drop 1 items in
    let mark : c.of_session.result ≡ of_session (2 + length others) =
    c.of_session.ensures.value ∙ ap of_session (omega (arith, count, c.len-in-loop-auths.ensures.value, c.loop-auths.invariant.some)) in
    let is =
    at_place auth_response c.number.new.self here _ (of_session (2 + length others)) _ c.number.ensures mark
    c.in_ok-session.ensures.reads.0 in
    let more : eqb (length here.rest) 0 ≡ false = ne_eqb (length here.rest) 0 (λ e. omega (arith, e)) in
    let len : length (items ++ a ∷ []) ≡ length items + 1 = length-append items (a ∷ []) in
    let behind : drop 1 (items ++ a ∷ []) ≡ others ++ a ∷ [] = drop-append-le 1 items (a ∷ []) c.loop-auths.invariant.some in
    let longer : length (others ++ a ∷ []) ≡ length others + 1 = length-append others (a ∷ []) in
    let text : here.rest ≡ spelling auth_response a ++ after.rest = sym (ap (λ (p : Place). p.here.rest) c.number.ensures) ∙ c.in_ok-session.ensures.spelled in
    let first : items ++ a ∷ [] ≡ c.args.auths.now.items ++ (others ++ a ∷ []) =
    ap (λ (xs : List AuthReply). xs ++ a ∷ []) c.loop-auths.invariant.first ∙ append_assoc c.args.auths.now.items others (a ∷ []) in
    record {
      so_far =
          rw (c.push.ensures.items, behind, longer)
          (goes_on (λ before. read (of_session (2 + length before)) auth_response) true others 2 (length others) here after a _
          (omega (arith, count)) more is c.loop-auths.invariant.so_far);
      few = rw c.push.ensures.items (omega (arith, len));
      some = rw c.push.ensures.items (omega (arith, len));
      first = rw (c.push.ensures.items, behind) first;
      spelled = rw (c.push.ensures.items, behind) (joined_push auth_response _ here.rest after.rest others a c.loop-auths.invariant.spelled text);
    }
