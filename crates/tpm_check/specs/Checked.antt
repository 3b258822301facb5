-- What `check` prints of a log, with all that it is compared with (this profile).
use Rattle.std.specs.Prelude.{◌≡◌, ℕ, Bool, true, false, ◌||◌, List, [], ◌++◌, Option, is_some, Result, Ok}
use Rattle.std.specs.Prelude.{Err, MatchOption}
use Rattle.tpm_types.specs.Alg.{all_algs}
use Rattle.tpm_pcr.specs.Registers.{Registers, value_in}
use Rattle.tpm_log.specs.declared.fault.LogFault.{LogFault}
use Rattle.tpm_log.specs.Takes.{IsOfBytes}
use Rattle.tpm_options.specs.declared.CheckOptions.{CheckOptions}
use Rattle.tpm_output.specs.declared.status.Status.TheVariants.{Done, Refused}
use Rattle.tpm_output.specs.declared.status.Status.{Status}
use Rattle.tpm_output.specs.Text.{bytes_in}
use Rattle.tpm_check.specs.Asked.{Asked}
use Rattle.tpm_check.specs.Compare.{Beside, Comparison, Verdict, beside, compared, printed, refused}
use Rattle.tpm_check.specs.CheckJson.{ok_text, registers_told}
use Rattle.tpm_events.specs.LogFaults.{fault_text}
use Rattle.tpm_check.specs.Check.{ChecksQuote, ReadsIfList}
use Rattle.tpm_check.specs.CheckAttest.{ChecksAttest, Says, behind, ended}

-- What the quote as it was signed says comes first, where there is one.
abbrev pub ChecksSigned : Beside → Asked → Verdict → Type 0
ChecksSigned b a v =
    MatchOption a.attest (Says (printed Done []) v.status v.text) (λ bytes. ChecksAttest b a.options bytes v)

-- the registers, where they are compared with nothing
abbrev pub registers_if : Beside → (others : Bool) → List ℕ
registers_if b true = []
registers_if b false = registers_told b.form b.value all_algs

-- What the information of a quote says comes last, where there is one, and else the registers, beside nothing else.
abbrev pub ChecksValues : Beside → CheckOptions → (others : Bool) → Verdict → Type 0
ChecksValues b o others v =
    MatchOption o.quote
    (Says (printed Done (registers_if b others)) v.status v.text)
    (λ quote. ChecksQuote b o.hash (bytes_in quote.now) v)

-- Between them stands each line of a list beside the registers. A line that is wrong ends the output.
abbrev pub ChecksBehind : Beside → CheckOptions → (others : Bool) → Comparison → Verdict → Type 0
ChecksBehind b o others list v =
    MatchOption list.status
    (Says (refused list.text) v.status v.text)
    (λ second. (third : Verdict)
    × ChecksValues b o others third
    × Says (behind (printed second list.text) third) v.status v.text)

-- Behind that stands the status, where it is told as objects.
abbrev pub ChecksToEnd : Beside → Asked → (list : Option (List ℕ)) → Verdict → Type 0
ChecksToEnd b a list v =
    (first second : Verdict)
    × ChecksSigned b a first
    × ChecksBehind b a.options (is_some a.attest || is_some list) (compared b list) second
    × Says (ended b.form (behind first second)) v.status v.text

-- what a log is checked for, beside a list by what was to come of it and what is
pub record Checking : Type 0 where
  pub asked : Asked
  pub list : Option (Option (List ℕ))
  pub list-behind : Option (Option (List ℕ))

-- For what the log gives this is the status and the text. A fault ends the output, and a list is not read behind it.
abbrev pub ChecksLog : Checking → Result Registers LogFault → Status → List ℕ → Type 0
ChecksLog k (Ok found) status text = let b = beside k.asked.options.form (value_in found.banks) in
    (list : Option (List ℕ))
    × ReadsIfList b k.list k.list-behind list
    × ChecksToEnd b k.asked list (printed status text)
ChecksLog k (Err fault) status text = let form = k.asked.options.form in
    (k.list-behind ≡ k.list) × IsOfBytes fault.kind × (status ≡ Refused)
    × (text ≡ fault_text form fault ++ ok_text form Refused)
