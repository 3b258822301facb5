use Rattle.std.proofs.Common.{refl}
use Rattle.std.proofs.lemmas.Result.{err_from_is_err_and}
use Rattle.tpm_show.proofs.told.command_and_areas.Goals as goal

pub returns-in_err-command-clause-err : goal.returns-in_err-command-clause-err
returns-in_err-command-clause-err c =
    let p = err_from_is_err_and c.from_residual.result c.from_residual.ensures.1 in
    rw (p.1, p.2) ((c.in_err-command.ensures.err _).0 refl)

pub returns-in_err-areas-clause-err : goal.returns-in_err-areas-clause-err
returns-in_err-areas-clause-err c =
    let p = err_from_is_err_and c.from_residual-in_err-areas.result c.from_residual-in_err-areas.ensures.1 in
    rw (p.1, p.2) (c.fault_before_params.ensures.sessions _ _ ((c.in_err-areas.ensures.err _).0 refl))

pub returns-clause-ok : goal.returns-clause-ok
returns-clause-ok c = ((c.in_ok-command.ensures.ok _).0 refl, (c.in_ok-areas.ensures.ok _).0 refl)
