-- What a device answers to stimuli, one after the other.
use Rattle.std.specs.Prelude.{◌≡◌, ℕ, List, [], ◌∷◌, Option}
use Rattle.tpm_model.specs.Steps.{History, Origin, PowerCycle}
use Rattle.tpm_model.specs.Counters.{counter_in, value_of}
use Rattle.tpm_model.specs.Answers.{answer, next}
use Rattle.tpm_model.specs.Runs.{Stimulus, Given, Cycled}
use Rattle.tpm_device.specs.declared.device.Device.{Device}
use Rattle.tpm_device.specs.Stands.{holds, Stands}

-- a call of `execute`, with the device before it and after it
pub record Call : Type 0 where
  pub old : Device
  pub bytes : List ℕ
  pub nonce : List ℕ
  pub response : List ℕ
  pub new : Device

-- what it promises: from one device to the other, with this response
pub record Executes (c : Call) : Type 0 where
  pub answers : (o : Origin) (h : History) → Stands o h c.old → c.response ≡ answer o h c.bytes c.nonce
  pub stands : (o : Origin) (h : History) → Stands o h c.old → Stands o (next o h c.bytes c.nonce) c.new

-- what the device was given
abbrev pub given_by : Call → Stimulus
given_by c = Given c.bytes c.nonce

-- what a power cycle promises
abbrev pub Cycles : Device → Device → Type 0
Cycles old new = (o : Origin) (h : History) → Stands o h old → Stands o (PowerCycle ∷ h) new

-- A device is given these stimuli, answers the buffers among them with these responses, and is then the other.
abbrev pub Answers : Device → List Stimulus → List (List ℕ) → Device → Type 0
Answers old [] responses new = (responses ≡ []) × (old ≡ new)
Answers old (Given bytes nonce ∷ es) [] new = ⊥
Answers old (Given bytes nonce ∷ es) (response ∷ responses) new =
    (d : Device)
    × Executes (record { old = old; bytes = bytes; nonce = nonce; response = response; new = d })
    × Answers d es responses new
Answers old (Cycled ∷ es) responses new = (d : Device) × Cycles old d × Answers d es responses new

-- the value of an index on a device, where it was incremented since its definition
abbrev pub value_on : Device → ℕ → Option ℕ
value_on d i = value_of (counter_in (holds d).nv.counters i)
