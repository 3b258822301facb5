use Rattle.std.proofs.Common.{refl, ap, ◌∙◌, sym}
use Rattle.tpm_c.specs.Callers.{kept}
use Rattle.tpm_c.proofs.caller.open.Goals as goal

pub returns-in-Ok : goal.returns-in-Ok
returns-in-Ok c =
    let found = c.in-Ok.ensures.ok in
    rw (found.1, found.3) (refl, c.move_on.ensures found.0 found.1 ∙ ap kept (sym found.4))
