use Rattle.std.proofs.Common.{refl, ap, ◌∙◌}
use Rattle.tpm_c.specs.Callers.{fault_number}
use Rattle.tpm_c.proofs.caller.judged.Goals as goal

pub returns-in-Err : goal.returns-in-Err
returns-in-Err c =
    let found = c.in-Err.ensures.err in
    record {
      ok = tt;
      err = rw (c.in-Sealed.is, found.1) (c.fault_number.ensures ∙ ap fault_number found.2, refl);
      fits = tt;
    }
