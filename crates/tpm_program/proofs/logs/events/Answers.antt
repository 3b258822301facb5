use Rattle.std.proofs.Common.{◌≡◌, ℕ, List, None, Option, option_map, subst, sym}
use Rattle.tpm_events.specs.ListEvents.{most_read}
use Rattle.tpm_check.specs.Asked.{Asked}
use Rattle.tpm_check.specs.VouchedEvents.{ListsBeside}
use Rattle.tpm_program.specs.Performs.{OfFirst, most_attest}
use Rattle.tpm_program.proofs.Checks.{of_first_if}
use Rattle.tpm_program.proofs.logs.events.Goals as goal

pub returns-in-Ok-clause-ok : goal.returns-in-Ok-clause-ok
returns-in-Ok-clause-ok g c =
    let offered = g.I.Inputs.offers c.args.inputs.now in
    let task = c.args.task.now in
    let status = c.in-Ok.status in
    let said = c.in-Ok.ensures.ok in
    let log = g.I.Source.Source.coming c.in_ok-log.log in
    let prints : Option (List ℕ) → Type 0 = λ quote. OfFirst most_read
    (λ bytes. ListsBeside task.listing (record { options = task.options; attest = quote; allow = None }) bytes status said.1) log in (
      said.1,
      (
        log,
        c.in_ok-log.ensures.opened,
        of_first_if offered most_attest task.attest (λ read. read ≡ option_map (λ v. v.items) c.in_ok-attest.attest) prints
            (λ read is. subst prints (sym is) (
              said.0,
              g.I.Source.Source.coming c.list_vouched.new.log,
              said.2,
              subst (λ (a : Asked). ListsBeside task.listing a said.0 status said.1) c.asked_with-asked.ensures said.3,
            ))
            c.in_ok-attest.ensures.ok,
      ),
      said.4,
    )
