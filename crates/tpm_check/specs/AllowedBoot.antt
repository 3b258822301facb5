-- What is printed of a log beside a quote, and a list of allowed digests (this profile).
use Rattle.std.specs.Prelude.{ℕ, Bool, true, false, List, [], map, codes, Ok}
use Rattle.std.specs.Prelude.{Option, Some, None}
use Rattle.tpm_types.specs.declared.tpms.Selection.{Selection}
use Rattle.tpm_pcr.specs.Registers.{Registers, value_in}
use Rattle.tpm_log.specs.Changes.{AreAfter}
use Rattle.tpm_log.specs.Events.{ParsedLog, shown}
use Rattle.tpm_log.specs.Replays.{Replays}
use Rattle.tpm_vouched.specs.declared.allowed.AllowedDigest.{AllowedDigest}
use Rattle.tpm_options.specs.declared.CheckOptions.{CheckOptions}
use Rattle.tpm_output.specs.declared.status.Status.TheVariants.{Done}
use Rattle.tpm_output.specs.declared.status.Status.{Status}
use Rattle.tpm_lists.specs.declared.allow_file.AllowFile.TheVariants.{Digests, TooLong, Wrong}
use Rattle.tpm_lists.specs.declared.allow_file.AllowFile.{AllowFile}
use Rattle.tpm_lists.specs.Extensions.{extensions_in}
use Rattle.tpm_check.specs.AllowTold.{on_found}
use Rattle.tpm_check.specs.Asked.{AskedQuote}
use Rattle.tpm_check.specs.CheckAttest.{ChecksAttest, IsFollowed, Says, behind, ended}
use Rattle.tpm_check.specs.Compare.{Verdict, beside, fault_told, not_a_register_text, printed, refused}
use Rattle.tpm_check.specs.SecureBootLines.{TellsLog, on_log, quoted_banks}

-- ---- behind a quote

-- a log beside which a quote is the one that was asked for, and what the quote selects
pub record VouchedLog : Type 0 where
  pub options : CheckOptions
  pub selections : List Selection
  pub log : ParsedLog

-- by the digests of the log that aren't on a list
abbrev pub on_digests : VouchedLog → List AllowedDigest → Verdict
on_digests q list =
    on_found q.options.form list q.selections (extensions_in (Some list) q.log.size (map shown q.log.records))

-- beside a list: by its digests, or what is wrong with it
abbrev pub on_list : VouchedLog → AllowFile → Verdict
on_list q (Digests list) = on_digests q list
on_list q (Wrong number) = refused (not_a_register_text q.options.form number)
on_list q TooLong = refused (fault_told q.options.form (codes "list too long"))

-- whether Secure Boot was on, in the banks whose register 7 is selected
abbrev pub on_boot : VouchedLog → Verdict
on_boot q = on_log q.options q.log.size (map shown q.log.records) (quoted_banks q.selections)

-- where that is asked for
abbrev pub boot_if : (asked : Bool) → Verdict → Verdict
boot_if false v = printed Done []
boot_if true v = v

-- Beside a list that comes first where it is asked for, and then what is said beside the list.
abbrev pub on_selected : (allow : Option AllowFile) → VouchedLog → Verdict
on_selected None q = on_boot q
on_selected (Some allow) q = behind (boot_if q.options.secure_boot (on_boot q)) (on_list q allow)

-- ---- a log

-- the bytes of a quote as it was signed, and what a list says, where there is one
pub record QuoteFiles : Type 0 where
  pub attest : List ℕ
  pub allow : Option AllowFile

-- What a quote says beside registers comes first, and behind one that is the one asked for what is said of what it
-- selects.
abbrev pub SaysBehind : AskedQuote → Registers → (next : List Selection → Verdict) → Verdict → Type 0
SaysBehind q found next v =
    (first last : Verdict)
    × ChecksAttest (beside q.options.form (value_in found.banks)) q.options q.attest first
    × IsFollowed q.attest next first last
    × Says (ended q.options.form last) v.status v.text

-- what is said of a log by what a quote selects
abbrev pub on_quoted : CheckOptions → (allow : Option AllowFile) → ParsedLog → List Selection → Verdict
on_quoted o allow l selections = on_selected allow (record { options = o; selections = selections; log = l })

-- beside the registers that the log gives
abbrev pub SaysBeside : CheckOptions → QuoteFiles → Registers → ParsedLog → Verdict → Type 0
SaysBeside o g found l =
    SaysBehind (record { options = o; attest = g.attest }) found (on_quoted o g.allow l)

-- That is printed of a log, with the status behind it where it is told as objects.
abbrev pub ChecksBeside : CheckOptions → QuoteFiles → List ℕ → Status → List ℕ → Type 0
ChecksBeside o g bytes status text =
    TellsLog o.form
    (λ l v. (found : Registers) × Replays AreAfter bytes (Ok found) × SaysBeside o g found l v)
    bytes (printed status text)
