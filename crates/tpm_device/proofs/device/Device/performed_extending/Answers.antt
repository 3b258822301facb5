use Rattle.std.proofs.Common.{rules, ◌≡◌, Err, refl, sym, ap, ◌∙◌}
use Rattle.tpm_types.specs.declared.handle_sets.PcrOrNull.{PcrOrNull}
use Rattle.tpm_commands.specs.declared.command.CommandBody.TheVariants as bodies
use Rattle.tpm_commands.specs.declared.command.Params.TheVariants as params
use Rattle.tpm_commands.specs.declared.command.ReplyBody.TheVariants as replies
use Rattle.tpm_commands.specs.Handles.{first}
use Rattle.tpm_buffer.specs.Commands.{pcr_or_null_in}
use Rattle.tpm_device.specs.inner.Performing.{Begin}
use Rattle.tpm_device.proofs.Acting.{body_done, body_refused}
use Rattle.tpm_device.proofs.Passing.{stays_authorized, without_params}
use Rattle.tpm_device.proofs.device.Device.performed_extending.Goals as goal

pub put_bare-requires-clause-own : goal.put_bare-requires-clause-own
put_bare-requires-clause-own c = stays_authorized c.args.self.now c.extend.new.self c.args.areas.now c.args.by.now c.args.out.now c.requires.ready
    (λ needs. c.extend.ensures.sessions)

pub returns : goal.returns
returns c =
    let x = c.args.areas.now in
    let n = c.args.nonce.now in
    let old : Begin = record { device = c.args.self.now; nonce = n; out = c.args.out.now } in
    let digests = c.decode_digests.new.digests in
    let named = sym (c.pcr_or_null_in-register.ensures ∙ ap pcr_or_null_in (c.first_handle.ensures ∙ ap first c.handles.ensures)) in
    body_done old c.extend.new.self c.roll.new.self x c.args.by.now (params.PcrExtend digests)
    (bodies.PcrExtend c.pcr_or_null_in-register.result digests) replies.PcrExtend c.put_bare.new.out
    c.requires.ready (rw (c.requires.extends, ← c.params.ensures.value) c.in-Ok.ensures)
    (ap (λ (register : PcrOrNull). bodies.PcrExtend register digests) named) (sym c.requires.extends)
    (c.in_ok-extend.ensures.answer n) (c.in_ok-extend.ensures.stands n)
    (c.put_bare.ensures.bytes replies.PcrExtend refl) c.put_bare.ensures.done
    (c.roll.ensures x (stays_authorized c.args.self.now c.extend.new.self x c.args.by.now c.args.out.now c.requires.ready
    (λ needs. c.extend.ensures.sessions)))

pub returns-in-Err : goal.returns-in-Err
returns-in-Err c =
    without_params (record { device = c.args.self.now; nonce = c.args.nonce.now; out = c.args.out.now }) c.args.areas.now c.in-Err.refusal
    (rw (c.requires.extends, ← c.params.ensures.value) c.in-Err.ensures)

pub returns-in_err-extend : goal.returns-in_err-extend
returns-in_err-extend c =
    let x = c.args.areas.now in
    let old : Begin = record { device = c.args.self.now; nonce = c.args.nonce.now; out = c.args.out.now } in
    let digests = c.decode_digests.new.digests in
    let named = sym (c.pcr_or_null_in-register.ensures ∙ ap pcr_or_null_in (c.first_handle.ensures ∙ ap first c.handles.ensures)) in
    let is : c.from_residual.result ≡ Err c.in_err-extend.field-0.0 = search rules in
    rw is (body_refused old c.extend.new.self x (params.PcrExtend digests)
    (bodies.PcrExtend c.pcr_or_null_in-register.result digests) c.in_err-extend.field-0.0
    (rw (c.requires.extends, ← c.params.ensures.value) c.in-Ok.ensures) (ap (λ (register : PcrOrNull). bodies.PcrExtend register digests) named)
    (c.in_err-extend.ensures.answer c.args.nonce.now) c.in_err-extend.ensures.refused)
