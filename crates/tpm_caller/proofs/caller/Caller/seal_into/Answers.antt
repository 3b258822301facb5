use Rattle.std.proofs.Common.{ℕ, List, ap, ◌∙◌}
use Rattle.tpm_types.specs.declared.command_code.CommandCode.{CommandCode}
use Rattle.tpm_buffer.specs.Commands.{code_for}
use Rattle.tpm_model.specs.Callers.{Seal, seal_key}
use Rattle.tpm_caller.specs.Sent.{Sent, hmac_key}
use Rattle.tpm_caller.proofs.HmacPlace.{IsUnsigned, unsigned, room, signed, sealed_spelled}
use Rattle.tpm_caller.proofs.caller.Caller.seal_into.Goals.{After-as_slice-3}
use Rattle.tpm_caller.proofs.caller.Caller.seal_into.Goals as goal

abbrev seal_of : After-as_slice-3 → Seal
seal_of c = record { caller = c.args.self; body = c.args.body; names = c.args.names.items; auth = c.args.auth.now; nonce = c.args.nonce; keep = c.args.keep }

put : (c : After-as_slice-3) → IsUnsigned (seal_of c) c.put_unsigned.ensures.0 c.put_unsigned.new.bytes.items
put c =
    let x = c.put_unsigned.ensures in
    unsigned (seal_of c) x.0 c.put_unsigned.new.bytes.items c.attrs_for-attrs.result c.requires.named x.1 x.2 x.3
    c.attrs_for-attrs.ensures x.4 x.5

pub sign-requires-clause-room : goal.sign-requires-clause-room
sign-requires-clause-room c =
    let d = (goal.at.sign-requires-clause-room c).After-as_slice-3 in
    rw (c.as_slice.ensures.value, c.as_slice-3.ensures.value) (room (seal_of d) c.put_unsigned.ensures.0 c.put_unsigned.new.bytes.items (put d))

pub returns-clause-sealed : goal.returns-clause-sealed
returns-clause-sealed c =
    let d = (goal.at.returns-clause-sealed c).After-as_slice-3 in
    let s = seal_of d in
    let view : CommandCode → List ℕ → List ℕ → Sent =
    λ code key bytes.
    record {
      waiting = record { caller = s.caller; code = code; key = key; nonce = s.nonce; keep = s.keep };
      bytes = bytes;
    } in
    let mac = rw (c.as_slice.ensures.value, c.as_slice-2.ensures.value, c.as_slice-3.ensures.value) at c.sign.ensures in
    let done =
    signed s c.put_unsigned.ensures.0 c.put_unsigned.new.bytes.items c.sign.new.bytes.items
    c.set_key.new.key c.code-code.result c.attrs_for-attrs.result (put d) c.code-code.ensures
    c.attrs_for-attrs.ensures c.set_key.ensures mac in
    ap (λ (z : CommandCode). view z c.set_key.new.key c.sign.new.bytes.items) c.code-code.ensures
    ∙ ap (λ (z : List ℕ). view (code_for s.body) z c.sign.new.bytes.items) c.set_key.ensures
    ∙ ap (view (code_for s.body) (hmac_key s.caller.hash (seal_key s))) done

pub returns-clause-spelled : goal.returns-clause-spelled
returns-clause-spelled c =
    let d = (goal.at.returns-clause-spelled c).After-as_slice-3 in
    sealed_spelled (seal_of d) c.put_unsigned.ensures.0 c.put_unsigned.new.bytes.items (put d) c.put_unsigned.ensures.6
