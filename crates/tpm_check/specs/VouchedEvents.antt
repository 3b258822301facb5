-- What `events` prints of a log, beside a quote or by itself (this profile).
use Rattle.std.specs.Prelude.{ℕ, List, map, MatchOption, Ok, Some}
use Rattle.tpm_pcr.specs.Registers.{Registers, value_in}
use Rattle.tpm_log.specs.Changes.{AreAfter}
use Rattle.tpm_log.specs.Events.{shown}
use Rattle.tpm_log.specs.Replays.{Replays}
use Rattle.tpm_options.specs.declared.CheckOptions.{CheckOptions}
use Rattle.tpm_options.specs.declared.Listing.{Listing}
use Rattle.tpm_output.specs.declared.status.Status.TheVariants.{Done}
use Rattle.tpm_output.specs.declared.status.Status.{Status}
use Rattle.tpm_events.specs.ListEvents.{ListsEvents, events_from}
use Rattle.tpm_check.specs.Asked.{Asked}
use Rattle.tpm_check.specs.CheckAttest.{ChecksAttest, IsFollowed, ended}
use Rattle.tpm_check.specs.Compare.{Verdict, beside, printed}
use Rattle.tpm_check.specs.SecureBootLines.{TellsLog}

-- what is listed of a log, the bytes of a quote as it was signed, and what is expected of that
pub record Quoted : Type 0 where
  pub listing : Listing
  pub attest : List ℕ
  pub options : CheckOptions

-- What the quote says beside the registers that the log gives comes first, with its status where that is told as
-- objects. The records stand behind a quote that is the one asked for, each with what that vouches for.
abbrev pub ListsVouched : Quoted → List ℕ → Status → List ℕ → Type 0
ListsVouched q bytes status text = let form = q.listing.form in
    TellsLog form
    (λ l v. (found : Registers) × (said : Verdict)
    × Replays AreAfter bytes (Ok found)
    × ChecksAttest (beside form (value_in found.banks)) q.options q.attest said
    × IsFollowed q.attest
    (λ selections. printed Done (events_from q.listing (Some selections) l.size 1 (map shown l.records)))
    (ended form said) v)
    bytes (printed status text)

-- Without a quote they stand alone.
abbrev pub ListsBeside : Listing → Asked → List ℕ → Status → List ℕ → Type 0
ListsBeside listing a bytes status text =
    MatchOption a.attest (ListsEvents listing bytes status text) (λ attest.
    ListsVouched (record { listing = listing; attest = attest; options = a.options }) bytes status text)
