use Rattle.std.proofs.Common.{rules, ◌≡◌, ℕ, List, Option, option_map, subst, sym}
use Rattle.tpm_lists.specs.declared.allow_file.AllowFile.{AllowFile}
use Rattle.tpm_lists.specs.AllowFiles.{list_said}
use Rattle.tpm_check.specs.Asked.{Asked}
use Rattle.tpm_events.specs.ListEvents.{most_read}
use Rattle.tpm_program.specs.Performs.{OfFirstIf, PrintsAsked, most_attest}
use Rattle.tpm_program.proofs.Checks.{list_not_read_if, of_first_if, of_if}
use Rattle.tpm_program.proofs.logs.check.Goals as goal

pub returns-in-Ok-clause-ok : goal.returns-in-Ok-clause-ok
returns-in-Ok-clause-ok g c =
    let coming = g.I.Source.Source.coming in
    let offered = g.I.Inputs.offers c.args.inputs.now in
    let task = c.args.task.now in
    let files = task.files in
    let status = c.in-Ok.status in
    let said = c.in-Ok.ensures.ok in
    let log = coming c.in_ok-log.log in
    let list = option_map coming c.in_ok-list.list in
    let attest = option_map (λ v. v.items) c.in_ok-attest.attest in
    let allow = c.in_ok-allow.allow in
    let asked : Option (List ℕ) → Option AllowFile → Asked = λ attest allow.
    record { options = task.options; attest = attest; allow = allow } in
    let prints : Option (Option (List ℕ)) → Option (List ℕ) → Option AllowFile → Type 0 = λ list attest allow.
    PrintsAsked (record { log = log; list = list; asked = asked attest allow }) status said.0 in
    let says : Asked → Type 0 = λ a. PrintsAsked (record { log = log; list = list; asked = a }) status said.0 in
    let quoted : Option (Option (List ℕ)) → Option (List ℕ) → Type 0 = λ list attest.
    OfFirstIf offered most_read files.allow (λ read. prints list attest (option_map list_said read)) in
    let told : quoted list attest = of_first_if offered most_read files.allow (λ read. allow ≡ option_map list_said read) _ (λ read is.
    subst (prints list attest) is (subst says {y = asked attest allow} c.asked_with-asked.ensures said.1)) c.in_ok-allow.ensures.ok in (
      said.0,
      (
        log,
        c.in_ok-log.ensures.opened,
        of_if offered files.registers list (λ (list : Option (Option (List ℕ))). OfFirstIf offered most_attest files.attest (quoted list))
            c.in_ok-list.ensures.opened
            (of_first_if offered most_attest files.attest (λ read. read ≡ attest) (quoted list) (λ read is. subst (quoted list) (sym is) told)
            c.in_ok-attest.ensures.ok),
      ),
      said.2,
    )

pub returns-in_err-allow-clause-err : goal.returns-in_err-allow-clause-err
returns-in_err-allow-clause-err g c =
    let offered = g.I.Inputs.offers c.args.inputs.now in
    let task = c.args.task.now in
    let files = task.files in
    let fails = list_not_read_if offered most_attest files.log task.options _ _ files.registers files.attest files.allow
    c.in_err-allow.field-0.0 (g.I.Source.Source.coming c.in_ok-log.log, c.in_ok-log.ensures.opened)
    c.in_ok-list.ensures.opened c.in_ok-attest.ensures.ok c.in_err-allow.ensures.err in
    search (rules, fails)
