use Rattle.std.proofs.Common.{rules, ◌≡◌, ◌∙◌, [], refl, ap}
use Rattle.std.specs.Int.{bytes_high_first}
use Rattle.tpm_types.specs.declared.tpms.Auth.{Auth}
use Rattle.tpm_model.specs.InStep.{CallerSession}
use Rattle.tpm_caller.specs.Plain.{PlainParts}
use Rattle.tpm_caller.proofs.Splicing.{written_in}
use Rattle.tpm_caller.proofs.caller.Caller.splice.Goals as goal

pub returns-clause-bytes : goal.returns-clause-bytes
returns-clause-bytes c =
    let old = c.args.out.now in
    let auth : Auth = record { session = c.args.self.now.handle; nonce = c.args.nonce.now; attrs = c.args.attrs; hmac = c.args.mac.now } in
    let seen : PlainParts = record { code = c.plain.inside.code; handles = c.plain.inside.handles.now; params = c.plain.inside.params.now } in
    let tag = c.append-len.ensures.bytes [] old (refl, refl) in
    let sized = c.append-len-2.ensures.bytes _ old tag in
    let coded = c.append-len-3.ensures.bytes _ old sized in
    let handled = c.append-len-4.ensures.bytes _ old coded in
    let area = c.append-len-5.ensures.bytes _ old handled in
    let session = c.append-len-6.ensures.bytes _ old area in
    let nonce_len = c.append-len-7.ensures.bytes _ old session in
    let nonce = c.append-len-8.ensures.bytes _ old nonce_len in
    let attrs = c.append-len-9.ensures.bytes _ old nonce in
    let mac_len = c.append-len-10.ensures.bytes _ old attrs in
    let mac = c.append-len-11.ensures.bytes _ old mac_len in
    let byte : c.to_be_bytes-7.result ≡ bytes_high_first 1 c.number-3.result = search rules in
    let handle = c.number-2.ensures.value ∙ ap (λ (s : CallerSession). s.handle) c.self.view_is in
    written_in seen c.args.plain.now auth old c.append.new.out c.append.result _ _ _ _ _ _ _ _
    c.to_be_bytes.ensures c.to_be_bytes-2.ensures (c.to_be_bytes-3.ensures ∙ ap (bytes_high_first 4) c.number.ensures)
    c.to_be_bytes-4.ensures (c.to_be_bytes-5.ensures ∙ ap (bytes_high_first 4) handle) c.to_be_bytes-6.ensures
    (byte ∙ ap (bytes_high_first 1) c.number-3.ensures.value) c.to_be_bytes-8.ensures c.plain.view_is
    (c.append.ensures.bytes _ old mac)
