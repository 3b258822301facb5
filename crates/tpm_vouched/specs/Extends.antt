-- What the records of a log extend a register with, and from which value (PC Client Platform Firmware Profile,
-- "TCG_PCR_EVENT2 Structure" and "Startup Locality Event").
use Rattle.std.specs.Prelude.{ℕ, ◌==◌, Bool, ◌&&◌, not, List, [], ◌∷◌, ◌++◌, flat_map, Option, Some, None}
use Rattle.std.specs.Prelude.{if◌then◌else◌}
use Rattle.tpm_types.specs.declared.alg.Alg.{Alg}
use Rattle.tpm_hmac.specs.Hashes.{digest}
use Rattle.tpm_pcr.specs.Registers.Change.{StartAt}
use Rattle.tpm_pcr.specs.Registers.{Change, digests_for, register_value}
use Rattle.tpm_log.specs.Records.{LogRecord, bank_digests, locality_of, no_action}
use Rattle.tpm_log.specs.Changes.{log_changes}

-- A record extends its register, but one of EV_NO_ACTION.
abbrev pub extends : (register : ℕ) → LogRecord → Bool
extends register e = (e.register == register) && not (e.kind == no_action)

-- the digests of a bank by which a record extends a register: one, where it has one of the bank
abbrev pub digests_extending : Alg → (register : ℕ) → LogRecord → List (List ℕ)
digests_extending bank register e = if extends register e then digests_for bank (bank_digests e.digests) else []

-- those of all records, in the log's order
abbrev pub digests_extended : Alg → (register : ℕ) → List LogRecord → List (List ℕ)
digests_extended bank register records = flat_map (digests_extending bank register) records

abbrev pub start_changes : Option ℕ → List Change
start_changes None = []
start_changes (Some locality) = StartAt locality ∷ []

-- the starts that the records of a log tell, the newest first
abbrev pub starts : List LogRecord → List Change
starts [] = []
starts (e ∷ es) = starts es ++ start_changes (locality_of e)

-- the value that a register has before it is extended: of register 0 that of the locality that the log tells
abbrev pub value_before : Alg → (register : ℕ) → List LogRecord → List ℕ
value_before bank register records = register_value (starts records) bank register

-- the value that a log leaves in a register
abbrev pub value_left : Alg → (register : ℕ) → List LogRecord → List ℕ
value_left bank register records = register_value (log_changes records) bank register

-- A value is extended with each digest in turn: what is hashed is the value before it, and the digest.
abbrev pub values_hashed : Alg → (old : List ℕ) → List (List ℕ) → List (List ℕ)
values_hashed bank old [] = []
values_hashed bank old (d ∷ ds) = (old ++ d) ∷ values_hashed bank (digest bank (old ++ d)) ds
