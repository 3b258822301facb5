-- Records beside a quote as it was signed.
use Rattle.std.proofs.Common.{◌≡◌, ◌∙◌, ℕ, List, ◌++◌, inl, map, refl, subst, ap, Ok, Some}
use Rattle.tpm_types.specs.declared.tpms.Selection.{Selection}
use Rattle.tpm_pcr.specs.Registers.{Registers, value_in}
use Rattle.tpm_log.specs.Changes.{AreAfter}
use Rattle.tpm_log.specs.Events.{ParsedLog, Parses, shown}
use Rattle.tpm_log.specs.Replays.{Replays}
use Rattle.tpm_output.specs.declared.status.Status.TheVariants.{Done}
use Rattle.tpm_output.specs.declared.status.Status.{Status}
use Rattle.tpm_events.specs.ListEvents.{events_from}
use Rattle.tpm_check.specs.CheckAttest.{ChecksAttest, IsFollowed, Says, Selects, ended}
use Rattle.tpm_check.specs.Compare.{Verdict, beside, printed}
use Rattle.tpm_check.specs.VouchedEvents.{ListsVouched, Quoted}

-- what is said of a quote that is the one asked for, and a text behind it
pub followed : (attest : List ℕ) (text : List Selection → List ℕ) (said : Verdict) (selections : List Selection)
    → said.status ≡ Done → Selects attest selections
    → IsFollowed attest (λ s. printed Done (text s)) said (printed Done (said.text ++ text selections))
followed attest text said selections done selects = rw done (selections, selects, (refl, refl))

same_verdict : (v : Verdict) (status : Status) (text : List ℕ) → Says v status text → printed status text ≡ v
same_verdict v status text says =
    ap (λ (s : Status). printed s text) says.0 ∙ ap (λ (t : List ℕ). printed v.status t) says.1

-- That is printed of a log.
pub lists : (q : Quoted) (bytes : List ℕ) (l : ParsedLog) (found : Registers) (said : Verdict) (first status : Status) (before text : List ℕ)
    → Parses bytes (Ok l) → Replays AreAfter bytes (Ok found)
    → ChecksAttest (beside q.listing.form (value_in found.banks)) q.options q.attest said
    → Says (ended q.listing.form said) first before
    → IsFollowed q.attest (λ selections. printed Done (events_from q.listing (Some selections) l.size 1 (map shown l.records)))
    (printed first before) (printed status text)
    → ListsVouched q bytes status text
lists q bytes l found said first status before text parses replays checks says follows =
    let next = λ (selections : List Selection). printed Done (events_from q.listing (Some selections) l.size 1 (map shown l.records)) in
    let told = subst (λ (v : Verdict). IsFollowed q.attest next v (printed status text)) (same_verdict (ended q.listing.form said) first before says) follows in
    inl (l, parses, (found, said, replays, checks, told))
