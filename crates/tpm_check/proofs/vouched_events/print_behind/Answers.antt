use Rattle.std.proofs.Common.{◌++◌, List, Some, ℕ, map, string_bytes, sym, ◌∙◌}
use Rattle.tpm_types.specs.declared.tpms.Selection.{Selection}
use Rattle.tpm_log.specs.Events.{shown}
use Rattle.tpm_output.proofs.Joins.{joins_appends}
use Rattle.tpm_events.specs.ListEvents.{events_from}
use Rattle.tpm_check.specs.Compare.{printed}
use Rattle.tpm_check.proofs.VouchedLists.{followed}
use Rattle.tpm_check.proofs.vouched_events.print_behind.Goals as goal

pub returns-in_ok-print_events-in-Done-clause-ok : goal.returns-in_ok-print_events-in-Done-clause-ok
returns-in_ok-print_events-in-Done-clause-ok g c =
    let contents = g.W.Write.contents in
    let log = c.args.log.now in
    let before = string_bytes c.args.said.now.text in
    let first = c.in_ok-print.ensures.ok in
    let records : List Selection → List ℕ = λ selections. events_from c.args.listing (Some selections) log.size 1 (map shown log.records) in
    let selections = c.args.selections.now in (
      before ++ records selections,
      (λ attest selects. followed attest records (printed c.args.said.now.status before) selections (sym first.0 ∙ c.in-Done.is) selects),
      joins_appends (contents c.args.out.now) (contents c.print.new.out) (contents c.print_events.new.out) before (records selections) first.1
          c.in_ok-print_events-in-Done.ensures.ok,
    )
