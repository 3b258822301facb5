use Rattle.std.proofs.Common.{◌≡◌, None, Some, ap}
use Rattle.tpm_model.specs.Callers.{Waiting}
use Rattle.tpm_caller.proofs.Opening.{told_of, told_first, opens_so}
use Rattle.tpm_caller.proofs.pending.Pending.judge.Goals as goal

pub returns-in-None-clause-ok : goal.returns-in-None-clause-ok
returns-in-None-clause-ok c =
    let z = c.args.self.now in
    let bytes = c.args.bytes.now in
    let same : c.self.inside.code ≡ z.code = ap (λ (s : Waiting). s.code) c.self.view_is in
    opens_so z bytes c.in-Nonce.nonce.now (told_of z c.self.inside.code bytes c.no_reply.result None same c.no_reply.ensures c.in-None.is)
    c.in-Nonce.ensures.0

pub returns-in-Some-clause-err : goal.returns-in-Some-clause-err
returns-in-Some-clause-err c =
    let z = c.args.self.now in
    let same : c.self.inside.code ≡ z.code = ap (λ (s : Waiting). s.code) c.self.view_is in
    told_first z c.args.bytes.now c.in-Some.fault
    (told_of z c.self.inside.code c.args.bytes.now c.no_reply.result (Some c.in-Some.fault) same c.no_reply.ensures c.in-Some.is)
