use Rattle.std.proofs.Common.{rules, ◌≡◌, ◌∙◌, sym, codes, None}
use Rattle.std.proofs.lemmas.Result.{err_from_is_err_and}
use Rattle.clap.specs.Words.{first_value, found_of}
use Rattle.tpm_args.proofs.Found.{memory_or, no_log_to_check, not_asked, not_listed_alone}
use Rattle.tpm_args.proofs.check.check_task.Goals as goal

pub returns-in_err-options : goal.returns-in_err-options
returns-in_err-options c =
    let value = first_value (found_of c.args.words.now) in
    let p = err_from_is_err_and c.from_residual-in_err-options.result c.from_residual-in_err-options.ensures.1 in
    rw (p.1, p.2) (memory_or c.in_err-options.field-0.0 (not_asked value) c.in_err-options.ensures)

pub returns-in_default : goal.returns-in_default
returns-in_default c =
    let value = first_value (found_of c.args.words.now) in
    let none : value (codes "LOG") ≡ None = search rules in
    memory_or c.in_ok-nothing_asked.field-0 (λ _. no_log_to_check value none) c.in_ok-nothing_asked.ensures

pub returns-in_err-check_words : goal.returns-in_err-check_words
returns-in_err-check_words c =
    let value = first_value (found_of c.args.words.now) in
    let p = err_from_is_err_and c.from_residual-in_err-check_words.result c.from_residual-in_err-check_words.ensures.1 in
    rw (p.1, p.2) (memory_or c.in_err-check_words.field-0.0
    (λ beside. not_listed_alone value (sym c.is_given.ensures ∙ c.if-is_given.true) (rw (c.is_uncompared.ensures, c.is_given-then-is_given.ensures) at beside))
    c.in_err-check_words.ensures)
