-- What the program does for each task (this profile): the status and what it prints.
use Rattle.std.specs.Prelude.{◌≡◌, ℕ, Bool, true, false, ◌&&◌, ◌||◌, List, [], Option, Some, None, is_some}
use Rattle.std.specs.Prelude.{option_map, Result}
use Rattle.std.specs.Borrow.{Bor}
use Rattle.tpm_pcr.specs.Registers.{Registers}
use Rattle.tpm_model.specs.Steps.{Origin, new_origin}
use Rattle.tpm_log.specs.declared.fault.LogFault.{LogFault}
use Rattle.tpm_log.specs.Changes.{AreAfter}
use Rattle.tpm_log.specs.Replays.{LogSource, ReadsFrom, ReplaysFrom}
use Rattle.tpm_output.specs.declared.status.Status.{Status}
use Rattle.tpm_show.specs.declared.telling.Telling.{Telling}
use Rattle.tpm_show.specs.Build.{Builds}
use Rattle.tpm_show.specs.Capture.{ReadsAll, TellsCapture}
use Rattle.tpm_names.specs.Codes.{code_of_name}
use Rattle.tpm_show.specs.Explain.{explain_status, explanation}
use Rattle.tpm_show.specs.Packets.{OfReadUpTo, TellsPackets, most_packets}
use Rattle.tpm_show.specs.Show.{Shows, ShowsFields}
use Rattle.tpm_show.specs.Stream.{OfRead, TellsStream}
use Rattle.tpm_script.specs.ShowNv.{ShowsNv}
use Rattle.tpm_lists.specs.AllowFiles.{list_said}
use Rattle.tpm_check.specs.Asked.{Asked}
use Rattle.tpm_check.specs.Checked.{ChecksLog}
use Rattle.tpm_check.specs.Kinds.{ExplainsKind, spelled}
use Rattle.tpm_events.specs.ListEvents.{most_read}
use Rattle.tpm_events.specs.HeaderTold.{TellsHeader}
use Rattle.tpm_check.specs.ExtendsTold.{TellsExtends}
use Rattle.tpm_check.specs.Listed.{TellsListed}
use Rattle.tpm_check.specs.QuotedBoot.{ChecksBoot}
use Rattle.tpm_check.specs.VouchedEvents.{ListsBeside}
use Rattle.tpm_output.specs.Reads.{ReadsUpTo}
use Rattle.tpm_script.specs.Script.{ReadsScript, script, script_text, status_for}
use Rattle.tpm_args.specs.declared.task.Task.TheVariants.{Show, ShowCapture, ShowPackets, ShowNv, Build, Run}
use Rattle.tpm_args.specs.declared.task.Task.TheVariants.{Explain, ExplainName, Check, CheckListed}
use Rattle.tpm_args.specs.declared.task.Task.TheVariants.{Events, EventsHeader}
use Rattle.tpm_args.specs.declared.task.Task.{Task}
use Rattle.tpm_program.specs.Offered.{Offered, OfFile, OfFileIf, OfPlace}

-- ---- what is read

-- This holds of all bytes that come, or of the first of them, so many.
abbrev pub OfFirst : (most : ℕ) → (List ℕ → Type 0) → Option (List ℕ) → Type 0
OfFirst most P coming = (bytes : List ℕ) × (rest : Option (List ℕ)) × ReadsUpTo most coming rest bytes × P bytes

-- This holds of those of the file at this path, or of none where there is no path.
abbrev pub OfFirstIf : Offered → (most : ℕ) → (path : Option (Bor (List ℕ))) → (Option (List ℕ) → Type 0) → Type 0
OfFirstIf offered most None P = P None
OfFirstIf offered most (Some path) P = OfFile offered path.now (OfFirst most (λ bytes. P (Some bytes)))

-- one more than any NV memory takes
abbrev pub most_kept : ℕ
most_kept = 1027

-- ---- frames

-- those of a capture that is a stream of them, or else those in its lines, and how they are told
abbrev pub TellsFrames : (binary : Bool) → Telling → Option (List ℕ) → Status → List ℕ → Type 0
TellsFrames true how coming status text =
    (rest : Option (List ℕ)) × OfRead coming rest (λ bytes. TellsStream how bytes status text)
TellsFrames false how coming status text =
    (bytes : List ℕ) × (rest : Option (List ℕ)) × ReadsAll coming rest bytes × TellsCapture how bytes status text

-- ---- a script

-- on a device of this origin, before its first command
abbrev pub RunsScript : Origin → Option (List ℕ) → Status → List ℕ → Type 0
RunsScript origin coming status text =
    (bytes : List ℕ) × (rest : Option (List ℕ)) × ReadsScript coming rest bytes
    × (status ≡ status_for (script bytes).refused)
    × (text ≡ script_text origin [] (script bytes))

-- ---- a log beside a list of registers and quotes

-- the bytes that come of a log and of a list, and what the log is held against
pub record Opened : Type 0 where
  pub log : Option (List ℕ)
  pub list : Option (Option (List ℕ))
  pub asked : Asked

-- a source of which no read has failed, and none fails
abbrev pub unfailing : Option (List ℕ) → LogSource
unfailing coming = record { coming = coming; failed = 0; failed-behind = 0 }

abbrev pub PrintsCompared : Opened → Status → List ℕ → Type 0
PrintsCompared o status text =
    (found : Result Registers LogFault) × (log : Option (List ℕ)) × (list : Option (Option (List ℕ)))
    × ReplaysFrom AreAfter (unfailing o.log) found
    × ReadsFrom AreAfter o.log log found
    × ChecksLog (record { asked = o.asked; list = o.list; list-behind = list }) found status text

-- One of the two, by a flag.
abbrev pub ByFlag : Bool → (P Q : Type 0) → Type 0
ByFlag true P Q = P
ByFlag false P Q = Q

-- Secure Boot is asked for, or a list of allowed digests is given with a quote.
abbrev pub is_of_boot : Asked → Bool
is_of_boot a = a.options.secure_boot || (is_some a.allow && is_some a.attest)

-- by which digests the log extends registers, where that is asked for, then what is said of the boot, and else the
-- registers
abbrev pub PrintsAsked : Opened → Status → List ℕ → Type 0
PrintsAsked o status text =
    ByFlag o.asked.options.extends
    (OfFirst most_read (λ bytes. TellsExtends bytes status text) o.log)
    (ByFlag (is_of_boot o.asked)
    (OfFirst most_read (λ bytes. ChecksBoot o.asked bytes status text) o.log)
    (PrintsCompared o status text))

-- ---- names

abbrev pub ExplainsNamed : (code : Option ℕ) → (name : List ℕ) → Status → List ℕ → Type 0
ExplainsNamed (Some code) name status text = (status ≡ explain_status code) × (text ≡ explanation code)
ExplainsNamed None name status text = ExplainsKind (spelled name) status text

-- the name of a response code, or of a kind of fault
abbrev pub ExplainsName : (name : List ℕ) → Status → List ℕ → Type 0
ExplainsName name status text = ExplainsNamed (code_of_name name) name status text

-- ---- each task

-- more than any quote has
abbrev pub most_attest : ℕ
most_attest = 4096

-- For what is read this is the status and what is printed.
abbrev pub Performs : Offered → Task → Status → List ℕ → Type 0
Performs offered (Show reply true hex) status text = ShowsFields reply hex.now status text
Performs offered (Show reply false hex) status text = Shows reply hex.now status text
Performs offered (ShowCapture c) status text =
    OfPlace offered c.file (λ capture.
    TellsFrames c.binary (record { fields = c.fields; form = c.form }) capture status text)
Performs offered (ShowPackets p) status text =
    OfFile offered p.file.now (λ packets. (rest : Option (List ℕ)) × OfReadUpTo most_packets packets rest (λ bytes.
    TellsPackets (record { fields = p.fields; form = p.form }) p.port bytes status text))
Performs offered (ShowNv file) status text =
    OfFile offered file.now (OfFirst most_kept (λ bytes. ShowsNv bytes status text))
Performs offered (Build name handles sessions parameters) status text =
    Builds (record {
      code = name;
      handles = handles.now;
      sessions = sessions.now;
      parameters = parameters.now;
    }) status text
Performs offered (Run owner greatest) status text =
    OfPlace offered None (λ input. RunsScript (new_origin owner greatest) input status text)
Performs offered (Explain code) status text = (status ≡ explain_status code) × (text ≡ explanation code)
Performs offered (ExplainName name) status text = ExplainsName name.now status text
Performs offered (Check c) status text =
    OfFile offered c.files.log.now (λ log.
    OfFileIf offered c.files.registers (λ list.
    OfFirstIf offered most_attest c.files.attest (λ attest.
    OfFirstIf offered most_read c.files.allow (λ allow.
    PrintsAsked (record {
      log = log;
      list = list;
      asked = record { options = c.options; attest = attest; allow = option_map list_said allow };
    }) status text))))
Performs offered (CheckListed l) status text =
    OfFile offered l.log.now (OfFirst most_read (λ bytes. TellsListed l.form bytes status text))
Performs offered (EventsHeader l) status text =
    OfFile offered l.log.now (OfFirst most_read (λ bytes. TellsHeader l.form bytes status text))
Performs offered (Events e) status text =
    OfFile offered e.log.now (λ coming.
    OfFirstIf offered most_attest e.attest (λ attest.
    OfFirst most_read (λ bytes.
    ListsBeside e.listing (record { options = e.options; attest = attest; allow = None }) bytes status text) coming))
