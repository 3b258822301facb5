use Rattle.std.proofs.Common.{rules, ◌≡◌, ◌∙◌, sym, codes, None, option_map, refl}
use Rattle.std.proofs.lemmas.Result.{err_from_is_err_and}
use Rattle.clap.specs.Words.{first_value, found_of}
use Rattle.tpm_args.proofs.Found.{memory_or, no_header_alone, no_log_to_list, no_registers, not_listed}
use Rattle.tpm_args.proofs.events.events_task.Goals as goal

pub returns-in_err-registers : goal.returns-in_err-registers
returns-in_err-registers c =
    let value = first_value (found_of c.args.words.now) in
    let given : option_map (λ t. t.now) c.get_str-2.result ≡ value (codes "register") = search rules in
    let p = err_from_is_err_and c.from_residual-in_err-registers.result c.from_residual-in_err-registers.ensures.1 in
    rw (p.1, p.2) (memory_or c.in_err-registers.field-0.0 (no_registers value _ given) c.in_err-registers.ensures)

pub returns-in_err-options : goal.returns-in_err-options
returns-in_err-options c =
    let value = first_value (found_of c.args.words.now) in
    let p = err_from_is_err_and c.from_residual-in_err-options.result c.from_residual-in_err-options.ensures.1 in
    rw (p.1, p.2) (memory_or c.in_err-options.field-0.0 (not_listed value) c.in_err-options.ensures)

pub returns : goal.returns
returns c = (refl, c.in_ok-options.ensures, search rules, search rules, search rules, c.listing.ensures)

pub returns-in_default : goal.returns-in_default
returns-in_default c =
    let value = first_value (found_of c.args.words.now) in
    let none : value (codes "LOG") ≡ None = search rules in
    memory_or c.in_ok-nothing_asked.field-0 (λ _. no_log_to_list value none) c.in_ok-nothing_asked.ensures

pub returns-in_err-check_words : goal.returns-in_err-check_words
returns-in_err-check_words c =
    let value = first_value (found_of c.args.words.now) in
    let p = err_from_is_err_and c.from_residual-in_err-check_words.result c.from_residual-in_err-check_words.ensures.1 in
    rw (p.1, p.2) (memory_or c.in_err-check_words.field-0.0
    (λ beside. no_header_alone value (sym c.is_given.ensures ∙ c.if-is_given.true) (rw c.is_bare.ensures at beside))
    c.in_err-check_words.ensures)

pub returns-then-is_given : goal.returns-then-is_given
returns-then-is_given c = (
  refl,
  (c.in_ok-options.options, c.in_ok-options.ensures),
  sym c.is_given.ensures ∙ c.if-is_given.true,
  sym c.is_bare.ensures ∙ c.in_ok-check_words.ensures,
  (search rules, c.log_task.ensures.1),
)
