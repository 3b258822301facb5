-- What `explain` prints of the kind of a log's fault (this profile).
use Rattle.std.specs.Prelude.{◌≡◌, ◌⊎◌, List, ℕ, [], ◌∷◌, ◌++◌, codes, find, unwrap_or, Option}
use Rattle.std.specs.Str.{str_eq_ignore_ascii_case}
use Rattle.tpm_log.specs.declared.fault.LogFaultKind.{LogFaultKind}
use Rattle.tpm_log.specs.declared.fault.LogFaultKind.TheVariants as logs
use Rattle.tpm_secure_boot.specs.declared.verdict.SecureBootFaultKind.{SecureBootFaultKind}
use Rattle.tpm_secure_boot.specs.declared.verdict.SecureBootFaultKind.TheVariants as boots
use Rattle.tpm_event_data.specs.declared.signatures.SignatureFaultKind.{SignatureFaultKind}
use Rattle.tpm_event_data.specs.declared.signatures.SignatureFaultKind.TheVariants as lists
use Rattle.tpm_output.specs.declared.status.Status.TheVariants.{Done, Refused}
use Rattle.tpm_output.specs.declared.status.Status.{Status}
use Rattle.tpm_output.specs.Text.{line}
use Rattle.tpm_events.specs.LogFaults.{kind_name}
use Rattle.tpm_check.specs.SecureBootLines.{fault_name}
use Rattle.tpm_event_marks.specs.SignatureMarks.{kind_name as list_kind_name}

-- what is wrong with a log (PC Client Platform Firmware Profile, "Event Logging")
abbrev pub log_words : LogFaultKind → List ℕ
log_words logs.Truncated = codes "the log ends within its header or a record"
log_words logs.TooLong = codes "a field would end behind byte 16,777,216, up to which a log is read"
log_words logs.NotCryptoAgile = codes "the first record is no header of a log with digests of several hashes (Spec ID Event03)"
log_words logs.BadHeader = codes "the header's event has too few or too many bytes, or lists no hash or more than eight"
log_words logs.DuplicateAlgorithm = codes "the header lists a hash twice"
log_words logs.WrongDigestSize = codes "the header gives a hash another size than its digests have, or one outside of 1 to 64 bytes"
log_words logs.UnknownAlgorithm = codes "the record has a digest of a hash that the header does not list"
log_words logs.RepeatedDigest = codes "the record has two digests of one hash"
log_words logs.BadRegister = codes "the record is not EV_NO_ACTION, and names a register other than 0 to 16 and 23"
log_words logs.BadLocality = codes "the start-up locality is not 0, 3 or 4"
log_words logs.LateLocality = codes "the start-up locality stands behind another, or behind a record that extends register 0"
log_words logs.Device = codes "a read of the log failed"

-- what keeps a log from telling of Secure Boot (the same, "PCR[7] - Secure Boot Policy Measurements")
abbrev pub boot_words : SecureBootFaultKind → List ℕ
boot_words boots.NotMeasured = codes "the bank's digest of the record is not the hash of its data, nor, of an authority, of all but their last byte"
boot_words boots.OtherType = codes "before the separator, the record is no variable, none of the profile's actions and no separator"
boot_words boots.NoVariable = codes "the data of the variable's record are no UEFI_VARIABLE_DATA to their end"
boot_words boots.Twice = codes "SecureBoot, PK, KEK, db, dbx, dbt or dbr was measured before"
boot_words boots.OtherValue = codes "SecureBoot has a value other than 0 and 1"
boot_words boots.Debugger = codes "the firmware could be debugged, as the action UEFI Debug Mode says"
boot_words boots.BadSeparator = codes "the separator is neither 00000000 nor FFFFFFFF, as of firmware that failed"
boot_words boots.NoSeparator = codes "the log ends without a separator in register 7"
boot_words boots.Late = codes "behind the separator, the record is no EV_EFI_VARIABLE_AUTHORITY"
boot_words boots.NoKey = codes "Secure Boot is on, and PK, KEK or db holds nothing"
boot_words boots.NoAuthority = codes "Secure Boot is on, and the log ends without an authority"
boot_words boots.NoSecureBoot = codes "the log ends, and SecureBoot was not measured, as by a BIOS without UEFI"

-- what keeps the content of a variable from being lists of signatures (UEFI Specification, "Signature Database")
abbrev pub list_words : SignatureFaultKind → List ℕ
list_words lists.Truncated = codes "the lists end within the type or the sizes of one"
list_words lists.ListSize = codes "a list has fewer bytes than its type and sizes, or more than are left"
list_words lists.HeaderSize = codes "a list's header has more bytes than the list"
list_words lists.SignatureSize = codes "a list's signatures have no room for their owner, or are no whole number"

-- the names of all kinds, each once
abbrev pub kind_names : List (List ℕ)
kind_names =
    codes "Truncated" ∷ codes "TooLong" ∷ codes "NotCryptoAgile" ∷ codes "BadHeader" ∷ codes "DuplicateAlgorithm"
    ∷ codes "WrongDigestSize" ∷ codes "UnknownAlgorithm" ∷ codes "RepeatedDigest" ∷ codes "BadRegister"
    ∷ codes "BadLocality" ∷ codes "LateLocality" ∷ codes "Device"
    ∷ codes "NotMeasured" ∷ codes "OtherType" ∷ codes "NoVariable" ∷ codes "Twice" ∷ codes "OtherValue"
    ∷ codes "Debugger" ∷ codes "BadSeparator" ∷ codes "NoSeparator" ∷ codes "Late" ∷ codes "NoKey"
    ∷ codes "NoAuthority" ∷ codes "NoSecureBoot" ∷ codes "ListSize" ∷ codes "HeaderSize" ∷ codes "SignatureSize" ∷ []

-- the first of these names that is the word, in any letter case
unfoldable pub name_among : List (List ℕ) → (word : List ℕ) → Option (List ℕ)
name_among names word = find (λ name. str_eq_ignore_ascii_case name word) names

-- the name of a kind as it is spelled, by the same in any letter case, and else the word itself
abbrev pub spelled : List ℕ → List ℕ
spelled word = unwrap_or (name_among kind_names word) word

unfoldable pub kind_line : (name words : List ℕ) → List ℕ
kind_line name words = line ((name ++ codes ":") ∷ words ∷ [])

-- One of a log's faults has this name, or one of Secure Boot's or of lists of signatures; or else none.
abbrev pub ExplainsKind : (name : List ℕ) → Status → (text : List ℕ) → Type 0
ExplainsKind name Done text =
    ((kind : LogFaultKind) × (kind_name kind ≡ name) × (text ≡ kind_line name (log_words kind)))
    ⊎ (((kind : SecureBootFaultKind) × (fault_name kind ≡ name) × (text ≡ kind_line name (boot_words kind)))
    ⊎ ((kind : SignatureFaultKind) × (list_kind_name kind ≡ name) × (text ≡ kind_line name (list_words kind))))
ExplainsKind name Refused text =
    ((kind : LogFaultKind) → kind_name kind ≡ name → ⊥) × ((kind : SecureBootFaultKind) → fault_name kind ≡ name → ⊥)
    × ((kind : SignatureFaultKind) → list_kind_name kind ≡ name → ⊥)
    × (text ≡ codes "unknown name of a code or of a fault\n")
