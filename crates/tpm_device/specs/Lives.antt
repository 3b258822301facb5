-- A device over its lives: each begins with the device that is made again of what was kept.
use Rattle.std.specs.Prelude.{◌≡◌, ℕ, List, [], ◌∷◌, ◌++◌}
use Rattle.tpm_wire.specs.Path.{Spells}
use Rattle.tpm_model.specs.Steps.{History, Origin}
use Rattle.tpm_model.specs.Counters.{nv_memory}
use Rattle.tpm_model.specs.Kept.{kept_memory, restored}
use Rattle.tpm_model.specs.Runs.Stimulus.{Given, Cycled}
use Rattle.tpm_model.specs.Runs.{Stimulus}
use Rattle.tpm_model.specs.Lives.{Life}
use Rattle.tpm_device.specs.declared.device.Device.{Device}
use Rattle.tpm_device.specs.Stands.{holds, Stands}
use Rattle.tpm_device.specs.Runs.{Call, Executes, Cycles}

-- A device is given these stimuli by these calls, and is then the other.
abbrev pub Calls : Device → List Stimulus → List Call → Device → Type 0
Calls old [] calls new = (calls ≡ []) × (old ≡ new)
Calls old (Given bytes nonce ∷ es) calls new =
    (response : List ℕ) × (d : Device) × (later : List Call)
    × Executes (record { old = old; bytes = bytes; nonce = nonce; response = response; new = d })
    × (calls ≡ record { old = old; bytes = bytes; nonce = nonce; response = response; new = d } ∷ later)
    × Calls d es later new
Calls old (Cycled ∷ es) calls new = (d : Device) × Cycles old d × Calls d es calls new

-- what `put_nv` promises of the bytes
abbrev pub IsKeptAs : Device → List ℕ → Type 0
IsKeptAs d bytes = (o : Origin) (h : History) → Stands o h d → Spells kept_memory (nv_memory o h) bytes

-- what `from_nv` promises of a device that it makes
pub record IsMadeOf (owner bytes : List ℕ) (d : Device) : Type 0 where
  pub reads : Spells kept_memory (holds d).nv bytes
  pub made : holds d ≡ restored owner (holds d).nv

-- a life of a device: it is given the kept stimuli, is kept as these bytes, and is given the lost stimuli
pub record Lived (life : Life) : Type 0 where
  pub old : Device
  pub put_away : Device
  pub last : Device
  pub kept : List Call
  pub lost : List Call
  pub bytes : List ℕ
  pub kept_by : Calls old life.kept kept put_away
  pub is_kept : IsKeptAs put_away bytes
  pub lost_by : Calls put_away life.lost lost last

-- A device of which `first` holds is given the stimuli of the first life. What is made of the same owner's value and of
-- the bytes of a life is given those of the next. `all` are the calls of all lives, `kept` those of their kept stimuli.
abbrev pub LivesThrough : (first : Device → Type 0) → List Life → (all kept : List Call) → Type 0
LivesThrough first [] all kept = (all ≡ []) × (kept ≡ [])
LivesThrough first (life ∷ lives) all kept =
    (x : Lived life) × (all_later : List Call) × (kept_later : List Call) × first x.old
    × (all ≡ x.kept ++ x.lost ++ all_later) × (kept ≡ x.kept ++ kept_later)
    × LivesThrough (IsMadeOf (holds x.old).owner x.bytes) lives all_later kept_later
