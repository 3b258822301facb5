use Rattle.std.proofs.Common.{◌≡◌, Option, Some, None, ap, ◌∙◌}
use Rattle.tpm_model.specs.Callers.{Waiting, caller_of_refusal}
use Rattle.tpm_caller.specs.declared.waiting.CallerFault.{CallerFault}
use Rattle.tpm_caller.specs.declared.waiting.CallerFault.TheVariants as faults
use Rattle.tpm_caller.proofs.Opening.{told_of, reply_no_refusal}
use Rattle.tpm_caller.proofs.pending.Pending.is_refused.Goals as goal

abbrev some : CallerFault → Option CallerFault
some fault = Some fault

pub returns-in-Some-Code : goal.returns-in-Some-Code
returns-in-Some-Code c =
    let z = c.args.self.now in
    let same : c.self.inside.code ≡ z.code = ap (λ (s : Waiting). s.code) c.self.view_is in
    let told = told_of z c.self.inside.code c.args.bytes.now c.no_reply.result (Some (faults.Code c.in-Some-Code.field-0-0)) same c.no_reply.ensures
    (c.in-Some-Code.is ∙ ap some c.in-Some-Code.field-0-is) in
    ap (caller_of_refusal z) told

pub returns-in-Some-Refused : goal.returns-in-Some-Refused
returns-in-Some-Refused c =
    let z = c.args.self.now in
    let same : c.self.inside.code ≡ z.code = ap (λ (s : Waiting). s.code) c.self.view_is in
    let told = told_of z c.self.inside.code c.args.bytes.now c.no_reply.result (Some (faults.Refused c.in-Some-Refused.field-0-0)) same c.no_reply.ensures
    (c.in-Some-Refused.is ∙ ap some c.in-Some-Refused.field-0-is) in
    ap (caller_of_refusal z) told

pub returns-in-Some-NotExpected : goal.returns-in-Some-NotExpected
returns-in-Some-NotExpected c =
    let z = c.args.self.now in
    let same : c.self.inside.code ≡ z.code = ap (λ (s : Waiting). s.code) c.self.view_is in
    let told = told_of z c.self.inside.code c.args.bytes.now c.no_reply.result (Some faults.NotExpected) same c.no_reply.ensures
    (c.in-Some-NotExpected.is ∙ ap some c.in-Some-NotExpected.field-0-is) in
    absurd told

pub returns-in-Some-WrongMac : goal.returns-in-Some-WrongMac
returns-in-Some-WrongMac c =
    let z = c.args.self.now in
    let same : c.self.inside.code ≡ z.code = ap (λ (s : Waiting). s.code) c.self.view_is in
    let told = told_of z c.self.inside.code c.args.bytes.now c.no_reply.result (Some faults.WrongMac) same c.no_reply.ensures
    (c.in-Some-WrongMac.is ∙ ap some c.in-Some-WrongMac.field-0-is) in
    absurd told

pub returns-in-None : goal.returns-in-None
returns-in-None c =
    let z = c.args.self.now in
    let same : c.self.inside.code ≡ z.code = ap (λ (s : Waiting). s.code) c.self.view_is in
    reply_no_refusal z c.args.bytes.now
    (told_of z c.self.inside.code c.args.bytes.now c.no_reply.result None same c.no_reply.ensures c.in-None.is)
