-- What C is told of a quote.
use Rattle.std.specs.Prelude.{◌≡◌, ◌≢◌, ◌⊎◌, ℕ, List, Option, Some, None, Result, Ok, Err}
use Rattle.tpm_wire.specs.declared.refusal.Refusal.{Refusal}
use Rattle.tpm_wire.specs.Path.{Spells, Fault}
use Rattle.tpm_types.specs.declared.alg.Alg.{Alg}
use Rattle.tpm_types.specs.declared.attest.QuoteInfo.{QuoteInfo}
use Rattle.tpm_types.specs.Attest.{quote_info}
use Rattle.tpm_pcr.specs.Registers.{Registers, composite, value_in}
use Rattle.tpm_log.specs.declared.fault.LogFault.{LogFault}
use Rattle.tpm_c.specs.Calls.{Call}
use Rattle.tpm_c.specs.Logs.{IsFault}

-- Its digest is that of the selected values, or another.
abbrev pub IsWhetherQuoted : (Alg → ℕ → List ℕ) → Alg → QuoteInfo → ℕ → Type 0
IsWhetherQuoted value hash quote code =
    ((composite hash value quote.selections ≡ quote.digest) × (code ≡ 0))
    ⊎ ((composite hash value quote.selections ≢ quote.digest) × (code ≡ 16))

-- the information of a quote that the bytes spell, and else the position of their fault
abbrev pub IsCompared : (Alg → ℕ → List ℕ) → Alg → List ℕ → Call ℕ → Type 0
IsCompared value hash bytes call =
    ((quote : QuoteInfo) × Spells quote_info quote bytes
    × IsWhetherQuoted value hash quote call.answer
    × (call.new ≡ call.old))
    ⊎ ((refusal : Refusal) × Fault quote_info bytes refusal × (call.new ≡ refusal.at) × (call.answer ≡ 17))

-- The log's fault comes before the quote.
abbrev pub IsCheckedOf : Result Registers LogFault → Alg → List ℕ → Call ℕ → Type 0
IsCheckedOf (Ok found) hash quote call = IsCompared (value_in found.banks) hash quote call
IsCheckedOf (Err fault) hash quote call = IsFault fault call.new call.answer

-- A hash without a bank comes before the log and the quote. This is what the log gives.
abbrev pub IsChecked : (Result Registers LogFault → Type 0) → Option Alg → List ℕ → Call ℕ → Type 0
IsChecked Gives None quote call = (call.new ≡ call.old) × (call.answer ≡ 18)
IsChecked Gives (Some hash) quote call =
    (found : Result Registers LogFault) × Gives found
    × IsCheckedOf found hash quote call
