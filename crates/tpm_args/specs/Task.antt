-- What the words ask for, by what clap finds in them.
use Rattle.std.specs.Prelude.{◌≡◌, ℕ, List, take, drop, Option, Some, None, codes, option_and_then, option_map}
use Rattle.std.specs.Prelude.{Bool, true, false, not, ◌&&◌, ◌||◌, unwrap_or, if◌then◌else◌, IsSomeAnd, ◌≢◌, is_some}
use Rattle.std.specs.Global.{Vec}
use Rattle.std.specs.Str.{bytes_eq}
use Rattle.clap.specs.Words.{Row, Text, first_of}
use Rattle.tpm_types.specs.declared.alg.Alg.{Alg}
use Rattle.tpm_types.specs.Alg.{alg_name}
use Rattle.tpm_types.specs.declared.tpms.Selection.{Selection}
use Rattle.tpm_types.specs.declared.command_code.CommandCode.{CommandCode}
use Rattle.tpm_options.specs.declared.CheckFiles.{CheckFiles}
use Rattle.tpm_options.specs.declared.CheckOptions.{CheckOptions}
use Rattle.tpm_options.specs.declared.Listing.{Listing}
use Rattle.tpm_options.specs.declared.LogTask.{LogTask}
use Rattle.tpm_args.specs.Names.{command_of_name, is_name}
use Rattle.tpm_names.specs.Numbers.{IsDecimal, IsHexadecimal, IsPort, IsShortDecimal}
use Rattle.tpm_args.specs.Owner.{IsOwner, bytes_in}
use Rattle.tpm_names.specs.Selections.{AreSelections, IsRegisterList}
use Rattle.tpm_output.specs.declared.form.Form.TheVariants.{Lines, Json}
use Rattle.tpm_output.specs.declared.form.Form.{Form}
use Rattle.tpm_args.specs.declared.task.Task.TheVariants.{Show, ShowCapture, ShowPackets, ShowNv, Build, Run, Explain}
use Rattle.tpm_args.specs.declared.task.Task.TheVariants.{ExplainName, Check, CheckListed, Events, EventsHeader}
use Rattle.tpm_args.specs.declared.task.Task.{Task}

-- the command of the option, where the option is given
abbrev pub Replies : Option Text → Option CommandCode → Type 0
Replies None reply = reply ≡ None
Replies (Some name) reply = (reply ≡ command_of_name name) × (is_some reply ≡ true)

-- whether a flag is given
abbrev pub is_given : Option Text → Bool
is_given None = false
is_given (Some text) = bytes_eq text (codes "true")

-- what stands behind `0x` or `0X`, or all of a text where it begins with neither
abbrev pub digits_in : Text → Text
digits_in text =
    if bytes_eq (take 2 text) (codes "0x") then drop 2 text
    else if bytes_eq (take 2 text) (codes "0X") then drop 2 text
    else text

-- a response code, in decimal or else in hexadecimal, by a word that has to be there
abbrev pub IsCode : (decimal : Bool) → Option Text → ℕ → Type 0
IsCode decimal None code = ⊥
IsCode true (Some text) code = IsShortDecimal text code
IsCode false (Some text) code = IsHexadecimal (digits_in text) code

-- the name of a code or of a fault's kind, by a word that is no number
abbrev pub IsName : (decimal : Bool) → Option Text → (name : Text) → Type 0
IsName decimal None name = ⊥
IsName true (Some text) name = ⊥
IsName false (Some text) name =
    (text ≡ name) × (is_name text ≡ true) × ((code : ℕ) → IsHexadecimal (digits_in text) code → ⊥)

-- This holds of the text and of the value of an option where it is given, and else it has none.
abbrev pub IsValueIf : {A : Type 0} → (Text → A → Type 0) → Option Text → Option A → Type 0
IsValueIf P None value = value ≡ None
IsValueIf P (Some text) value = IsSomeAnd value (P text)

-- the files of a check
abbrev pub AreFiles : (Text → Option Text) → CheckFiles → Type 0
AreFiles value f =
    (value (codes "LOG") ≡ Some f.log.now)
    × (value (codes "registers") ≡ option_map (λ r. r.now) f.registers)
    × (value (codes "attest") ≡ option_map (λ a. a.now) f.attest)
    × (value (codes "allow") ≡ option_map (λ a. a.now) f.allow)

-- A flag is not given, or this holds.
abbrev pub goes_with : (flag holds : Bool) → Bool
goes_with flag holds = not flag || holds

-- how what is printed is told
abbrev pub form_asked : (Text → Option Text) → Form
form_asked value = if is_given (value (codes "json")) then Json else Lines

-- Neither a list of registers nor the information of a quote is given.
abbrev pub has_neither : (Text → Option Text) → Bool
has_neither value = not (is_some (value (codes "registers"))) && not (is_some (value (codes "quote")))

-- None of these is, nor is a quote as it was signed or Secure Boot asked for.
abbrev pub is_uncompared : (Text → Option Text) → Bool
is_uncompared value =
    (has_neither value && not (is_some (value (codes "attest")))) && not (is_given (value (codes "secure-boot")))

-- Nor is JSON.
abbrev pub is_alone : (Text → Option Text) → Bool
is_alone value = is_uncompared value && not (is_given (value (codes "json")))

-- No registers, no quote and nothing of a record is asked for.
abbrev pub is_bare : (Text → Option Text) → Bool
is_bare value =
    (((not (is_some (value (codes "register"))) && not (is_some (value (codes "attest"))))
    && not (is_given (value (codes "places")))) && not (is_given (value (codes "digests"))))
    && not (is_given (value (codes "data")))

-- Secure Boot is asked for beside neither a list of registers nor the information of a quote, and any state only of it;
-- any nonce and any selection only of a quote as it was signed, beside no nonce and no list.
abbrev pub GoTogether : (Text → Option Text) → Type 0
GoTogether value =
    (goes_with (is_given (value (codes "secure-boot"))) (has_neither value) ≡ true)
    × (goes_with (is_given (value (codes "any-state"))) (is_given (value (codes "secure-boot"))) ≡ true)
    × (goes_with (is_given (value (codes "any-nonce")))
    (is_some (value (codes "attest")) && not (is_some (value (codes "nonce")))) ≡ true)
    × (goes_with (is_given (value (codes "any-selection")))
    (is_some (value (codes "attest")) && not (is_some (value (codes "require")))) ≡ true)

-- A list of allowed digests is given with a quote as it was signed, beside neither of the former; and what a log
-- extends is asked for alone.
abbrev pub DigestsGoTogether : (Text → Option Text) → Type 0
DigestsGoTogether value =
    (goes_with (is_some (value (codes "allow"))) (is_some (value (codes "attest")) && has_neither value) ≡ true)
    × (goes_with (is_given (value (codes "extends"))) (is_alone value) ≡ true)

-- what is expected of quotes: bytes of this name by their hexadecimal digits, and a list of registers, go with a quote
-- as it was signed, and a hash of this name with it or with the information of a quote
abbrev pub IsExpected : (Text → Option Text) → Text → Option (Vec ℕ) → Type 0
IsExpected value name bytes =
    IsValueIf (λ text (v : Vec ℕ). (is_some (value (codes "attest")) ≡ true) × (bytes_in text ≡ Some v.items))
    (value name) bytes

abbrev pub IsRequired : (Text → Option Text) → Option (List Selection) → Type 0
IsRequired value required =
    IsValueIf (λ text selections. (is_some (value (codes "attest")) ≡ true) × AreSelections text selections)
    (value (codes "require")) required

abbrev pub IsHashExpected : (Text → Option Text) → Option Alg → Type 0
IsHashExpected value hash =
    IsValueIf (λ text hash. (text ≡ alg_name hash)
    × ((is_some (value (codes "quote")) || is_some (value (codes "attest"))) ≡ true))
    (value (codes "hash")) hash

abbrev pub AreExpected : (Text → Option Text) → CheckOptions → Type 0
AreExpected value o =
    IsExpected value (codes "nonce") o.nonce
    × IsRequired value o.required
    × IsExpected value (codes "signer") o.signer
    × IsHashExpected value o.hash

-- A list of allowed digests names the registers that a quote has to select, so any others do.
abbrev pub AreOptions : (Text → Option Text) → CheckOptions → Type 0
AreOptions value o =
    GoTogether value
    × DigestsGoTogether value
    × AreExpected value o
    × (o.any_nonce ≡ is_given (value (codes "any-nonce")))
    × (o.any_selection ≡ (is_given (value (codes "any-selection")) || is_some (value (codes "allow"))))
    × (value (codes "quote") ≡ option_map (λ q. q.now) o.quote)
    × (o.secure_boot ≡ is_given (value (codes "secure-boot")))
    × (o.any_state ≡ is_given (value (codes "any-state")))
    × (o.extends ≡ is_given (value (codes "extends")))
    × (o.form ≡ form_asked value)

-- a log, by itself
abbrev pub IsLog : (Text → Option Text) → LogTask → Type 0
IsLog value l = (value (codes "LOG") ≡ Some l.log.now) × (l.form ≡ form_asked value)

-- what is listed of one
abbrev pub IsListing : (Text → Option Text) → Listing → Type 0
IsListing value l =
    IsValueIf IsRegisterList (value (codes "register")) l.registers
    × (l.places ≡ is_given (value (codes "places")))
    × (l.digests ≡ is_given (value (codes "digests")))
    × (l.event_data ≡ is_given (value (codes "data")))
    × (l.form ≡ form_asked value)

-- standard input, by the word `-`, or a file
abbrev pub IsInput : (word file : Option Text) → Type 0
IsInput (Some text) None = text ≡ codes "-"
IsInput None (Some path) = Unit {0}
IsInput _ _ = ⊥

-- a subcommand of this name, with these values of its words by their names, asks for the task
abbrev pub AsksWith : Text → (Text → Option Text) → Task → Type 0
AsksWith name value (Show reply fields hex) =
    (name ≡ codes "show")
    × Replies (value (codes "reply")) reply
    × (fields ≡ is_given (value (codes "fields")))
    × (value (codes "HEX") ≡ Some hex.now) × (hex.now ≢ codes "-") × (value (codes "file") ≡ None)
    × (is_given (value (codes "binary")) ≡ false) × (is_given (value (codes "json")) ≡ false)
    × (value (codes "nv") ≡ None) × (value (codes "pcap") ≡ None) × (value (codes "port") ≡ None)
AsksWith name value (ShowCapture c) =
    (name ≡ codes "show")
    × (value (codes "reply") ≡ None)
    × (c.fields ≡ is_given (value (codes "fields")))
    × (value (codes "file") ≡ option_map (λ f. f.now) c.file) × IsInput (value (codes "HEX")) (value (codes "file"))
    × (c.binary ≡ is_given (value (codes "binary"))) × (c.form ≡ form_asked value)
    × (value (codes "nv") ≡ None) × (value (codes "pcap") ≡ None) × (value (codes "port") ≡ None)
AsksWith name value (ShowPackets p) =
    (name ≡ codes "show")
    × (value (codes "pcap") ≡ Some p.file.now) × IsPort (unwrap_or (value (codes "port")) (codes "2321")) p.port
    × (value (codes "reply") ≡ None)
    × (p.fields ≡ is_given (value (codes "fields"))) × (p.form ≡ form_asked value)
    × (value (codes "HEX") ≡ None) × (value (codes "file") ≡ None)
    × (is_given (value (codes "binary")) ≡ false) × (value (codes "nv") ≡ None)
AsksWith name value (ShowNv file) =
    (name ≡ codes "show") × (value (codes "nv") ≡ Some file.now) × (value (codes "reply") ≡ None)
    × (is_given (value (codes "fields")) ≡ false) × (value (codes "HEX") ≡ None) × (value (codes "file") ≡ None)
    × (is_given (value (codes "binary")) ≡ false) × (is_given (value (codes "json")) ≡ false)
    × (value (codes "pcap") ≡ None) × (value (codes "port") ≡ None)
AsksWith name value (Build code handles sessions parameters) = (name ≡ codes "build")
    × (option_and_then command_of_name (value (codes "NAME")) ≡ Some code)
    × (value (codes "HANDLES") ≡ Some handles.now)
    × (value (codes "SESSIONS") ≡ Some sessions.now)
    × (value (codes "PARAMETERS") ≡ Some parameters.now)
AsksWith name value (Run owner greatest) =
    (name ≡ codes "run")
    × IsOwner (unwrap_or (value (codes "owner")) (codes "")) owner
    × IsDecimal (unwrap_or (value (codes "greatest")) (codes "0")) greatest
AsksWith name value (Explain code) =
    (name ≡ codes "explain") × IsCode (is_given (value (codes "decimal"))) (value (codes "CODE")) code
AsksWith name value (ExplainName word) =
    (name ≡ codes "explain") × IsName (is_given (value (codes "decimal"))) (value (codes "CODE")) word.now
AsksWith name value (Check c) =
    (name ≡ codes "check") × AreFiles value c.files × AreOptions value c.options
    × (is_given (value (codes "listed")) ≡ false)
AsksWith name value (CheckListed l) =
    (name ≡ codes "check") × ((options : CheckOptions) × AreOptions value options)
    × (is_given (value (codes "listed")) ≡ true)
    × ((is_uncompared value && not (is_given (value (codes "extends")))) ≡ true)
    × IsLog value l
AsksWith name value (EventsHeader l) =
    (name ≡ codes "events") × ((options : CheckOptions) × AreOptions value options)
    × (is_given (value (codes "header")) ≡ true) × (is_bare value ≡ true)
    × IsLog value l
AsksWith name value (Events e) =
    (name ≡ codes "events") × AreOptions value e.options × (is_given (value (codes "header")) ≡ false)
    × (value (codes "attest") ≡ option_map (λ a. a.now) e.attest)
    × (value (codes "LOG") ≡ Some e.log.now)
    × IsListing value e.listing

-- the same, of the subcommand that was met, with its matches
abbrev pub Asks : Option (Text × List Row) → Task → Type 0
Asks None task = ⊥
Asks (Some met) task = AsksWith met.0 (λ id. first_of id met.1) task

abbrev pub AsksNothing : Option (Text × List Row) → Type 0
AsksNothing met = (task : Task) → Asks met task → ⊥
