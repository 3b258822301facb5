use Rattle.std.proofs.Common.{inl, List, ℕ, subst}
use Rattle.tpm_program.specs.Ends.{AskFor}
use Rattle.tpm_program.proofs.running.run.Goals as goal

pub returns-in-Ok-task : goal.returns-in-Ok-task
returns-in-Ok-task g c =
    inl (
      c.in-Ok-task.task,
      subst (λ (words : List (List ℕ)). AskFor words c.in-Ok-task.task) c.in-Ok.ensures c.in-Ok-task.ensures.ok,
      c.performed_for.ensures,
    )
