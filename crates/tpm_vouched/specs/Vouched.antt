-- What a register's value vouches for, and a quote: the digests that extended it, and the texts that were measured.
use Rattle.std.specs.Prelude.{◌≡◌, ◌≢◌, ℕ, List, [], ◌∷◌, ◌++◌, map, flat_map, filter_map, find}
use Rattle.std.specs.Prelude.{nat_eq, ◌==◌, filter}
use Rattle.std.specs.Prelude.{Option, Some, None, option_map, if◌then◌else◌, Ok}
use Rattle.std.specs.Cmp.Lexicographic.{pointwise}
use Rattle.tpm_wire.specs.Path.{Spells}
use Rattle.tpm_types.specs.declared.alg.Alg.{Alg}
use Rattle.tpm_types.specs.declared.attest.Attest.{Attest}
use Rattle.tpm_types.specs.declared.tpms.Selection.{Selection}
use Rattle.tpm_types.specs.Alg.{alg_number}
use Rattle.tpm_hmac.specs.Hashes.{digest}
use Rattle.tpm_hmac.specs.Among.{IsAmong}
use Rattle.tpm_pcr.specs.Registers.{Registers, digests_for, selected_values, value_in}
use Rattle.tpm_quote.specs.Attests.{IsJudged}
use Rattle.tpm_event_data.specs.declared.measured.MeasuredPart.TheVariants as parts
use Rattle.tpm_event_data.specs.declared.measured.MeasuredPart.{MeasuredPart}
use Rattle.tpm_event_data.specs.EventData.{without_zero}
use Rattle.tpm_event_data.specs.Events.{Shown, without_last}
use Rattle.tpm_event_data.specs.Measured.{loader_text, value_of}
use Rattle.tpm_log.specs.declared.algorithm_size.AlgorithmSize.{AlgorithmSize}
use Rattle.tpm_log.specs.Changes.{AreAfter}
use Rattle.tpm_log.specs.Events.{shown}
use Rattle.tpm_log.specs.Records.{LogRecord, bank_digests, log}
use Rattle.tpm_log.specs.Replays.{Replays}
use Rattle.tpm_vouched.specs.declared.record.VouchedPart.{VouchedPart}
use Rattle.tpm_vouched.specs.Extends.{digests_extended, extends, value_before, values_hashed}
use Rattle.tpm_vouched.specs.Record.{vouched}

-- ---- the part of a record's data that a digest is of

-- a part of the data, with its bytes
pub record TextOfPart : Type 0 where
  pub part : MeasuredPart
  pub text : List ℕ

abbrev pub part_if : MeasuredPart → Option (List ℕ) → List TextOfPart
part_if part None = []
part_if part (Some text) = record { part = part; text = text } ∷ []

-- The parts that a record's digest may be of: its data, the value alone of the variable that they are, the text behind
-- GRUB's prefix, with the zero that ends it and without, and all of the data but their last byte.
abbrev pub parts_of : Shown → List TextOfPart
parts_of e =
    part_if parts.Data (Some e.event)
    ++ (part_if parts.Variable (value_of e.kind e.event)
    ++ (part_if parts.Text (loader_text e.kind e.event)
    ++ (part_if parts.Text (option_map without_zero (loader_text e.kind e.event))
    ++ part_if parts.Cut (Some (without_last e.event)))))

-- the first of these of which it is the hash
abbrev pub part_of : Alg → (of_bank : List ℕ) → List TextOfPart → Option TextOfPart
part_of bank of_bank those = find (λ p. pointwise nat_eq of_bank (digest bank p.text)) those

-- a digest, with the part of the data of which it is the hash, if the log has that
abbrev pub Measured : Type 0
Measured = List ℕ × Option TextOfPart

abbrev pub with_part : Alg → Shown → (of_bank : List ℕ) → Measured
with_part bank e of_bank = (of_bank, part_of bank of_bank (parts_of e))

-- by what a record extends a register in a bank
abbrev pub measured_by : Alg → (register : ℕ) → LogRecord → List Measured
measured_by bank register e =
    if extends register e then map (with_part bank (shown e)) (digests_for bank (bank_digests e.digests)) else []

-- by what all records do, in the log's order
abbrev pub measured : Alg → (register : ℕ) → List LogRecord → List Measured
measured bank register records = flat_map (measured_by bank register) records

-- ---- two logs

abbrev pub SameText : Option TextOfPart → Option TextOfPart → Type 0
SameText (Some one) (Some other) = one.text ≡ other.text
SameText _ _ = Unit {0}

-- One by one the digests are the same; and so are their texts, where both logs have them.
abbrev pub AreSame : List Measured → List Measured → Type 0
AreSame [] [] = Unit {0}
AreSame (m ∷ ms) (n ∷ ns) = (m.0 ≡ n.0) × SameText m.1 n.1 × AreSame ms ns
AreSame _ _ = ⊥

-- Both logs begin with one value in a register of a bank, and measured the same there, in the same order.
pub record SameMeasured (bank : Alg) (register : ℕ) (one other : List LogRecord) : Type 0 where
  pub before : value_before bank register one ≡ value_before bank register other
  pub digests : digests_extended bank register one ≡ digests_extended bank register other
  pub each : AreSame (measured bank register one) (measured bank register other)

-- ---- what is vouched for

-- the part that a digest vouches for
abbrev pub vouched_part : Measured → MeasuredPart
vouched_part (of_bank, None) = parts.Other
vouched_part (of_bank, Some p) = p.part

-- what is told of a record in a bank
abbrev pub parts_in : Alg → List VouchedPart → List MeasuredPart
parts_in bank those = map (λ v. v.part) (filter (λ v. alg_number v.bank == alg_number bank) those)

-- what is told of all records of a register, in the log's order
abbrev pub vouched_parts : List Selection → Alg → (register : ℕ) → List LogRecord → List MeasuredPart
vouched_parts sels bank register records =
    flat_map (λ e. if e.register == register then parts_in bank (vouched sels (shown e)) else []) records

-- ---- premises

-- No two different texts among these have the same hash.
abbrev pub HashApart : Alg → List (List ℕ) → Type 0
HashApart hash texts = (x y : List ℕ) → IsAmong x texts → IsAmong y texts → digest hash x ≡ digest hash y → x ≡ y

-- None of them has the value as its hash.
abbrev pub NoneHashesTo : Alg → List ℕ → List (List ℕ) → Type 0
NoneHashesTo hash value texts = (x : List ℕ) → IsAmong x texts → digest hash x ≢ value

-- the texts whose hashes a register of a bank shows: those that were measured, and those that are hashed to extend it
abbrev pub texts_hashed : Alg → (register : ℕ) → List LogRecord → List (List ℕ)
texts_hashed bank register records =
    filter_map (λ m. option_map (λ p. p.text) m.1) (measured bank register records)
    ++ values_hashed bank (value_before bank register records) (digests_extended bank register records)

-- No two different texts hashed in the two logs have the same hash, and none has a value as its hash with which the
-- register begins in one of them.
pub record AreApart (bank : Alg) (register : ℕ) (one other : List LogRecord) : Type 0 where
  pub apart : HashApart bank (texts_hashed bank register one ++ texts_hashed bank register other)
  pub behind : NoneHashesTo bank (value_before bank register one)
      (texts_hashed bank register one ++ texts_hashed bank register other)
  pub other_behind : NoneHashesTo bank (value_before bank register other)
      (texts_hashed bank register one ++ texts_hashed bank register other)

-- ---- logs and quotes

-- bytes that are a log
pub record ReadLog : Type 0 where
  pub bytes : List ℕ
  pub hashes : List AlgorithmSize
  pub records : List LogRecord
  pub spelled : Spells log (hashes, records) bytes

-- a log beside whose registers a quote is the one that was asked for
pub record QuotedLog (hash : Alg) (a : Attest) : Type 0 where
  pub read : ReadLog
  pub registers : Registers
  pub replayed : Replays AreAfter read.bytes (Ok registers)
  pub nonce : List ℕ
  pub required : List Selection
  pub accepted : IsJudged (value_in registers.banks) a
      (record { hash = hash; nonce = nonce; required = required }) (Ok tt)

-- the text whose hash a quote has: the values of the selected registers, one behind the other (Part 1, "Selecting
-- Multiple PCR")
abbrev pub quoted_text : Registers → List Selection → List ℕ
quoted_text r sels = flat_map (λ v. v) (selected_values (value_in r.banks) sels)

-- The two logs don't have different texts with the quote's one hash.
abbrev pub QuoteApart : (hash : Alg) → List Selection → (one other : Registers) → Type 0
QuoteApart hash sels one other = HashApart hash (quoted_text one sels ∷ quoted_text other sels ∷ [])
