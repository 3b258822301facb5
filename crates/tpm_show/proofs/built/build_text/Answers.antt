use Rattle.std.proofs.Common.{◌≡◌, Some, None, refl}
use Rattle.std.proofs.lemmas.Result.{IfOk-weaker}
use Rattle.tpm_show.specs.declared.built.Part.TheVariants.{Handles, Sessions, Parameters}
use Rattle.tpm_show.specs.Build.{NoDigits, part_of}
use Rattle.tpm_show.proofs.built.build_text.Goals as goal

pub returns-in_default : goal.returns-in_default
returns-in_default c =
    let none : None ≡ part_of c.args.handles.now = rw c.in_default.is at c.in_ok-handles.ensures in
    IfOk-weaker c.no_digits.result _ _ (λ b told. (NoDigits Handles, rw (← none) refl, told)) c.no_digits.ensures

pub returns-in_default-2 : goal.returns-in_default-2
returns-in_default-2 c =
    let handles : Some c.in-Some.handles.items ≡ part_of c.args.handles.now = rw c.in-Some.is at c.in_ok-handles.ensures in
    let none : None ≡ part_of c.args.sessions.now = rw c.in_default-2.is at c.in_ok-sessions.ensures in
    IfOk-weaker c.no_digits-in_default-2.result _ _ (λ b told. (NoDigits Sessions, rw (← handles, ← none) refl, told))
    c.no_digits-in_default-2.ensures

pub returns-in_default-3 : goal.returns-in_default-3
returns-in_default-3 c =
    let handles : Some c.in-Some.handles.items ≡ part_of c.args.handles.now = rw c.in-Some.is at c.in_ok-handles.ensures in
    let sessions : Some c.in-Some-2.sessions.items ≡ part_of c.args.sessions.now = rw c.in-Some-2.is at c.in_ok-sessions.ensures in
    let none : None ≡ part_of c.args.parameters.now = rw c.in_default-3.is at c.in_ok-parameters.ensures in
    IfOk-weaker c.no_digits-in_default-3.result _ _ (λ b told. (NoDigits Parameters, rw (← handles, ← sessions, ← none) refl, told))
    c.no_digits-in_default-3.ensures
