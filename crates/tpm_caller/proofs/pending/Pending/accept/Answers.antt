use Rattle.std.proofs.Common.{◌≡◌, sym, ap, ◌∙◌}
use Rattle.tpm_model.specs.Callers.{Waiting, opened_response}
use Rattle.tpm_caller.specs.Faults.{opening_of}
use Rattle.tpm_caller.proofs.Opening.{open_done, response_ok, decoded}
use Rattle.tpm_caller.proofs.pending.Pending.accept.Goals as goal

pub returns-in-Err : goal.returns-in-Err
returns-in-Err c =
    sym
    (ap (λ o. opening_of c.args.self (opened_response c.args.self o))
    (decoded c.args.self c.self.inside.code c.args.bytes.now c.decode_response.result
    (ap (λ (s : Waiting). s.code) c.self.view_is) c.decode_response.ensures.ok
    c.decode_response.ensures.err
    ∙ c.in-Err.is))

pub returns-in-Code : goal.returns-in-Code
returns-in-Code c =
    sym
    (ap (λ o. opening_of c.args.self (opened_response c.args.self o))
    (decoded c.args.self c.self.inside.code c.args.bytes.now c.decode_response.result
    (ap (λ (s : Waiting). s.code) c.self.view_is) c.decode_response.ensures.ok
    c.decode_response.ensures.err
    ∙ c.in-Ok.is
    ∙ ap response_ok c.in-Code.is))

pub returns : goal.returns
returns c =
    let z = c.args.self in
    let code : c.self.inside.code ≡ z.code = ap (λ (s : Waiting). s.code) c.self.view_is in
    let spells = (c.decode_response.ensures.ok c.in-Ok.response).0 c.in-Ok.is in
    open_done z c.self.inside.code c.args.bytes.now c.args.nonce.now c.in-Ok.response c.in_default.field-0
    c.in_default.field-1.items c.after.result code spells c.in-Ok.ensures.spelled c.in_default.is
    c.requires.opens c.after.ensures
