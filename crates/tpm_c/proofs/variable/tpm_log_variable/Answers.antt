use Rattle.std.proofs.Common.{refl, subst}
use Rattle.tpm_event_data.specs.EventData.{VariableData}
use Rattle.tpm_c.specs.Variables.{variable_view, IsVariableTold}
use Rattle.tpm_c.proofs.Varying.{views}
use Rattle.tpm_c.proofs.variable.tpm_log_variable.Goals as goal

pub returns-in-Some : goal.returns-in-Some
returns-in-Some c =
    let bytes = c.args.bytes.now in
    let found = c.in-Some.variable in
    let v : VariableData = record { guid = found.guid.now; name = found.name.now; value = found.value.now } in
    rw c.variable_view.ensures
    (subst (λ o. IsVariableTold o bytes (record { answer = 33; old = c.args.view.now; new = variable_view v })) c.in-Some.ensures
    (refl, views c.args.kind bytes v c.in-Some.ensures, refl))
