-- What C is told of a quote as it was signed.
use Rattle.std.specs.Prelude.{◌≡◌, ◌⊎◌, ℕ, ◌+◌, ◌==◌, List, [], length, Option, Some, None, Result, Ok, Err}
use Rattle.std.specs.Prelude.{if◌then◌else◌}
use Rattle.tpm_wire.specs.declared.refusal.Refusal.{Refusal}
use Rattle.tpm_wire.specs.Path.{Spells, Fault}
use Rattle.tpm_wire.specs.Spelling.{spelling}
use Rattle.tpm_wire.specs.WholeValues.{whole_in}
use Rattle.tpm_types.specs.declared.alg.Alg.{Alg}
use Rattle.tpm_types.specs.declared.tpms.Selection.{Selection}
use Rattle.tpm_types.specs.declared.attest.Attest.{Attest}
use Rattle.tpm_types.specs.Alg.{alg_number}
use Rattle.tpm_types.specs.Tpml.{selections}
use Rattle.tpm_types.specs.Attest.{yes_no_number, attest}
use Rattle.tpm_pcr.specs.Registers.{Registers, value_in}
use Rattle.tpm_log.specs.declared.fault.LogFault.{LogFault}
use Rattle.tpm_quote.specs.declared.attest.AttestFault.{AttestFault}
use Rattle.tpm_quote.specs.Attests.{SelectsNone, IsJudged}
use Rattle.tpm_quote.specs.declared.attest.AttestFault.TheVariants as faults
use Rattle.tpm_c.specs.declared.part.TpmPart.{TpmPart}
use Rattle.tpm_c.specs.declared.attest.TpmAttest.{TpmAttest}
use Rattle.tpm_c.specs.declared.attest.TpmAttestFault.{TpmAttestFault}
use Rattle.tpm_c.specs.Calls.{Call}
use Rattle.tpm_c.specs.Parts.{part, bytes_in, refusal_of, Viewed}
use Rattle.tpm_c.specs.Logs.{kind_number}

-- ---- the parts of a quote (Part 2, 10.12): the magic and the type have 6 bytes, the size of each
-- sized buffer 2, the clock 17 and the firmware's version 8

abbrev pub signer_part : Attest → TpmPart
signer_part a = part 8 (length a.signer)

abbrev pub nonce_part : Attest → TpmPart
nonce_part a = part (8 + length a.signer + 2) (length a.extra_data)

abbrev pub selections_part : Attest → TpmPart
selections_part a =
    part (8 + length a.signer + 2 + length a.extra_data + 25) (length (spelling selections a.quote.selections))

abbrev pub digest_part : Attest → TpmPart
digest_part a = part (8 + length a.signer + 2 + length a.extra_data
    + 25 + length (spelling selections a.quote.selections) + 2) (length a.quote.digest)

abbrev pub attest_view : Attest → TpmAttest
attest_view a = record {
  signer = signer_part a;
  nonce = nonce_part a;
  clock = a.clock_info.clock;
  reset_count = a.clock_info.reset_count;
  restart_count = a.clock_info.restart_count;
  safe = yes_no_number a.clock_info.safe;
  firmware_version = a.firmware_version;
  selections = selections_part a;
  digest = digest_part a;
}

-- What the view says lies in the bytes is there.
pub record HoldsAttest (bytes : List ℕ) (a : Attest) : Type 0 where
  pub signer : bytes_in bytes (signer_part a) ≡ a.signer
  pub nonce : bytes_in bytes (nonce_part a) ≡ a.extra_data
  pub selected : bytes_in bytes (selections_part a) ≡ spelling selections a.quote.selections
  pub digest : bytes_in bytes (digest_part a) ≡ a.quote.digest

-- The answer is 0 with the view of the quote that the bytes spell, or 1 with their fault; the other place is as it was.
abbrev pub ViewsAttest : List ℕ → Call (Viewed TpmAttest) → Type 0
ViewsAttest bytes call =
    ((call.answer ≡ 0)
    × (a : Attest) × Spells attest a bytes
    × (call.new.view ≡ attest_view a)
    × HoldsAttest bytes a
    × (call.new.refusal ≡ call.old.refusal))
    ⊎ ((call.answer ≡ 1)
    × Fault attest bytes (refusal_of call.new.refusal)
    × (call.new.view ≡ call.old.view))

-- ---- a quote beside a log

-- a fault of bytes, and a register that is not selected
abbrev pub fault_at : (code at : ℕ) → TpmAttestFault
fault_at code at = record { code = code; at = at; hash = 0; pcr = 0 }

abbrev pub lacking : Alg → ℕ → TpmAttestFault
lacking bank register = record { code = 0; at = 0; hash = alg_number bank; pcr = register }

-- It is the quote that was asked for, or one that selects no register.
abbrev pub IsWhetherEmpty : List Selection → (code : ℕ) → Type 0
IsWhetherEmpty quoted code = ((code ≡ 0) × ¬ SelectsNone quoted) ⊎ ((code ≡ 21) × SelectsNone quoted)

-- the number of what was found
abbrev pub TellsJudged : List Selection → Result (Unit {0}) AttestFault → Call TpmAttestFault → Type 0
TellsJudged quoted (Ok _) call = IsWhetherEmpty quoted call.answer × (call.new ≡ call.old)
TellsJudged quoted (Err faults.Nonce) call = (call.answer ≡ 19) × (call.new ≡ call.old)
TellsJudged quoted (Err (faults.NotSelected r)) call = (call.answer ≡ 20) × (call.new ≡ lacking r.bank r.register)
TellsJudged quoted (Err faults.Digest) call = (call.answer ≡ 16) × (call.new ≡ call.old)

-- a quote by its bytes, and the hash and the nonce that it is to have
pub record Asked : Type 0 where
  pub bytes : List ℕ
  pub hash : Alg
  pub nonce : List ℕ

-- the quote that the bytes spell, or else their fault
abbrev pub IsAttestCompared : (Alg → ℕ → List ℕ) → Asked → List Selection → Call TpmAttestFault → Type 0
IsAttestCompared value asked required call =
    ((a : Attest) × Spells attest a asked.bytes
    × (found : Result (Unit {0}) AttestFault)
    × IsJudged value a (record { hash = asked.hash; nonce = asked.nonce; required = required }) found
    × TellsJudged a.quote.selections found call)
    ⊎ ((refusal : Refusal) × Fault attest asked.bytes refusal
    × (call.new ≡ fault_at refusal.code refusal.at)
    × (call.answer ≡ 17))

-- The log's fault comes before the quote.
abbrev pub IsAttestOf : Result Registers LogFault → Asked → List Selection → Call TpmAttestFault → Type 0
IsAttestOf (Ok found) asked required call = IsAttestCompared (value_in found.banks) asked required call
IsAttestOf (Err e) asked required call =
    (call.new ≡ fault_at 0 e.at)
    × (call.answer ≡ kind_number e.kind)

-- what is required: nothing by no bytes
abbrev pub required_in : List ℕ → Result (List Selection) Refusal
required_in bytes = if length bytes == 0 then Ok [] else whole_in selections bytes

-- What is required comes before the log. This is what the log gives.
abbrev pub IsRequired : (Result Registers LogFault → Type 0)
    → Asked → Result (List Selection) Refusal → Call TpmAttestFault → Type 0
IsRequired Gives asked (Ok required) call =
    (found : Result Registers LogFault) × Gives found
    × IsAttestOf found asked required call
IsRequired Gives asked (Err refusal) call =
    (call.new ≡ fault_at refusal.code refusal.at)
    × (call.answer ≡ 22)

-- what is asked for, where the hash has a bank
abbrev pub asked_for : Option Alg → (bytes nonce : List ℕ) → Option Asked
asked_for None bytes nonce = None
asked_for (Some hash) bytes nonce = Some (record { bytes = bytes; hash = hash; nonce = nonce })

-- The hash comes before all.
abbrev pub IsAttestChecked : (Result Registers LogFault → Type 0)
    → Option Asked → Result (List Selection) Refusal → Call TpmAttestFault → Type 0
IsAttestChecked Gives None required call = (call.new ≡ call.old) × (call.answer ≡ 18)
IsAttestChecked Gives (Some asked) required call = IsRequired Gives asked required call
