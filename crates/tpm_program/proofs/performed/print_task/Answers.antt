use Rattle.std.proofs.Common.{refl}
use Rattle.tpm_show.specs.Build.{text_of}
use Rattle.tpm_program.proofs.performed.print_task.Goals as goal

pub returns-in_ok-built-in-Build-clause-ok : goal.returns-in_ok-built-in-Build-clause-ok
returns-in_ok-built-in-Build-clause-ok g c =
    let made = c.in_ok-built-in-Build.ensures.ok in
    rw c.in-Build.is (
      text_of made.0,
      (made.0, made.1, made.2, refl),
      (made.0, made.1, made.3),
      made.4,
    )
