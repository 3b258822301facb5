use Rattle.std.proofs.Common.{◌≡◌, None, Some, ap}
use Rattle.tpm_model.specs.Callers.{Waiting}
use Rattle.tpm_caller.proofs.Opening.{told_of, told_first, fails_so}
use Rattle.tpm_caller.proofs.pending.Pending.first_fault.Goals as goal

pub returns-in-None : goal.returns-in-None
returns-in-None c =
    let z = c.args.self.now in
    let same : c.self.inside.code ≡ z.code = ap (λ (s : Waiting). s.code) c.self.view_is in
    let told = told_of z c.self.inside.code c.args.bytes.now c.no_reply.result None same c.no_reply.ensures c.in-None.is in
    fails_so z c.args.bytes.now c.args.checked told c.requires

pub returns-in-Some : goal.returns-in-Some
returns-in-Some c =
    let z = c.args.self.now in
    let same : c.self.inside.code ≡ z.code = ap (λ (s : Waiting). s.code) c.self.view_is in
    told_first z c.args.bytes.now c.in-Some.fault
    (told_of z c.self.inside.code c.args.bytes.now c.no_reply.result (Some c.in-Some.fault) same c.no_reply.ensures c.in-Some.is)
