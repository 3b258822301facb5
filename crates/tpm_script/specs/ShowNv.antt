-- What `show --nv` prints (this profile).
use Rattle.std.specs.Prelude.{◌≡◌, ℕ, List}
use Rattle.tpm_wire.specs.declared.refusal.Refusal.{Refusal}
use Rattle.tpm_wire.specs.Path.{Spells, Fault}
use Rattle.tpm_model.specs.Counters.{NvMemory}
use Rattle.tpm_model.specs.Kept.{kept_memory}
use Rattle.tpm_output.specs.declared.status.Status.TheVariants.{Done, Refused}
use Rattle.tpm_output.specs.declared.status.Status.{Status}
use Rattle.tpm_output.specs.Text.{refusal_line}
use Rattle.tpm_script.specs.MemoryText.{memory_text}

-- the NV memory that the bytes spell, and else their fault
abbrev pub ShowsNv : List ℕ → Status → List ℕ → Type 0
ShowsNv bytes Done text = (nv : NvMemory) × Spells kept_memory nv bytes × (text ≡ memory_text nv)
ShowsNv bytes Refused text = (refusal : Refusal) × Fault kept_memory bytes refusal × (text ≡ refusal_line refusal)
