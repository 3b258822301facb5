-- What is judged of a device's memory before it is restored.
use Rattle.std.specs.Prelude.{◌≡◌, ◌≤◌, ℕ, Bool, true, false, List, length}
use Rattle.tpm_wire.specs.Path.{Spells}
use Rattle.tpm_types.specs.Limits.{digest_bytes}
use Rattle.tpm_model.specs.Counters.{NvMemory}
use Rattle.tpm_model.specs.Kept.{kept_memory}
use Rattle.tpm_c.specs.declared.part.TpmRefusal.{TpmRefusal}
use Rattle.tpm_c.specs.Parts.{refusal_of}
use Rattle.tpm_c.specs.KeptDevices.{IsFaulty}

-- The bytes spell an NV memory.
abbrev pub SpellsNvMemory : (kept : List ℕ) → Type 0
SpellsNvMemory kept = (nv : NvMemory) × Spells kept_memory nv kept

-- whether it is refused to make a device, and the refusal before that and after it
pub record Judged : Type 0 where
  pub is_refused : Bool
  pub old : TpmRefusal
  pub new : TpmRefusal

abbrev pub IsJudgedSo : (is_refused : Bool) → (owner kept : List ℕ) → Judged → Type 0
IsJudgedSo true owner kept judged = IsFaulty owner kept (refusal_of judged.new)
IsJudgedSo false owner kept judged = (length owner ≤ digest_bytes) × SpellsNvMemory kept × (judged.new ≡ judged.old)

-- Whether it is refused to make a device of them: the refusal is the first fault, or as it was where there is none.
abbrev pub IsJudged : (owner kept : List ℕ) → Judged → Type 0
IsJudged owner kept judged = IsJudgedSo judged.is_refused owner kept judged
