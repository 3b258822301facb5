use Rattle.std.proofs.Common.{rules, ◌≡◌, codes}
use Rattle.std.specs.Prelude.{unwrap_or}
use Rattle.std.proofs.lemmas.Result.{err_from_is_err_and}
use Rattle.clap.specs.Words.{first_value, found_of}
use Rattle.tpm_args.proofs.Found.{asks_no_run, memory_or}
use Rattle.tpm_args.proofs.run.run_task.Goals as goal

pub returns-in_err-owner : goal.returns-in_err-owner
returns-in_err-owner c =
    let value = first_value (found_of c.args.words.now) in
    let text : c.unwrap_or.result.now ≡ unwrap_or (value (codes "owner")) (codes "") = search rules in
    let p = err_from_is_err_and c.from_residual.result c.from_residual.ensures.1 in
    rw (p.1, p.2) (memory_or c.in_err-owner.field-0.0
    (λ none. asks_no_run value (λ owner greatest h. none owner (rw text h.1))) c.in_err-owner.ensures)

pub returns-in_err-greatest : goal.returns-in_err-greatest
returns-in_err-greatest c =
    let value = first_value (found_of c.args.words.now) in
    let text : c.unwrap_or-2.result.now ≡ unwrap_or (value (codes "greatest")) (codes "0") = search rules in
    let p = err_from_is_err_and c.from_residual-in_err-greatest.result c.from_residual-in_err-greatest.ensures.1 in
    rw (p.1, p.2) (memory_or c.in_err-greatest.field-0.0
    (λ none. asks_no_run value (λ owner greatest h. none greatest (rw text h.2))) c.in_err-greatest.ensures)
