use Rattle.std.proofs.Common.{rules, arith, ◌≡◌, List, ℕ, length, ap, ◌∙◌}
use Rattle.tpm_types.specs.declared.command_code.CommandCode.{CommandCode}
use Rattle.tpm_buffer.specs.Commands.{code_for}
use Rattle.tpm_model.specs.Callers.{Seal, Waiting}
use Rattle.tpm_caller.specs.Plain.{PlainParts, parts_of}
use Rattle.tpm_caller.proofs.FromParts.{parts_spelled}
use Rattle.tpm_caller.proofs.Splicing.{sealed_there}
use Rattle.tpm_caller.proofs.caller.Caller.seal_plain.Goals as goal

pub returns-clause-sealed : goal.returns-clause-sealed
returns-clause-sealed c body is =
    let s : Seal =
    record { caller = c.args.self; body = body; names = c.args.names.now; auth = c.args.auth.now; nonce = c.args.nonce; keep = c.args.keep } in
    let seen : PlainParts = record { code = c.plain.inside.code; handles = c.plain.inside.handles.now; params = c.plain.inside.params.now } in
    let waits : CommandCode → List ℕ → Waiting =
    λ code key. record { caller = s.caller; code = code; key = key; nonce = s.nonce; keep = s.keep } in
    let mac =
    rw (
      c.as_slice.ensures.value,
      c.as_slice-2.ensures.value,
      c.as_slice-3.ensures.value,
      c.nonce.ensures.value,
      c.cp_hash-p_hash.ensures.value,
      c.hash.ensures,
    ) at c.mac-mac.ensures.value in (
      ap (λ (k : CommandCode). waits k c.set_key.new.key) (ap (λ (q : PlainParts). q.code) (c.plain.view_is ∙ is))
          ∙ ap (waits (code_for body)) c.set_key.ensures,
      sealed_there s seen c.args.plain.now c.set_key.new.key c.mac-mac.result c.as_slice-4.result.now
          c.as_slice-5.result.now c.args.out.now c.splice-len.new.out c.attrs_for-attrs.result c.splice-len.result
          c.plain.view_is is c.attrs_for-attrs.ensures c.set_key.ensures mac c.as_slice-4.ensures.value
          c.as_slice-5.ensures.value c.splice-len.ensures.bytes,
    )

pub returns-clause-spelled : goal.returns-clause-spelled
returns-clause-spelled c body is fit =
    let s : Seal =
    record { caller = c.args.self; body = body; names = c.args.names.now; auth = c.args.auth.now; nonce = c.args.nonce; keep = c.args.keep } in
    let seen : PlainParts = record { code = c.plain.inside.code; handles = c.plain.inside.handles.now; params = c.plain.inside.params.now } in
    let parts : seen ≡ parts_of body = c.plain.view_is ∙ is in
    parts_spelled s
    (record { session = c.splice-len.ensures.session; number = c.splice-len.ensures.number; nonce = search rules })
    fit
    (omega (arith, ap (λ (p : PlainParts). length p.handles) parts, c.plain.invariant.1))
    (omega (arith, ap (λ (p : PlainParts). length p.params) parts, c.plain.invariant.2))
