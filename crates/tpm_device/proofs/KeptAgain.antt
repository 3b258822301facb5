-- A device that is made of bytes is as one after a power cycle.
use Rattle.std.proofs.Common.{◌≡◌, ℕ, List, [], ◌∷◌, Result, Ok, Err, refl, sym, ap, ◌∙◌}
use Rattle.std.specs.Prelude.{OnOk}
use Rattle.tpm_wire.specs.declared.refusal.Refusal.{Refusal}
use Rattle.tpm_wire.specs.Path.{Spells, Decodes}
use Rattle.tpm_wire.specs.Spelling.{spelling, Fits}
use Rattle.tpm_wire.specs.Buffers.{buffer}
use Rattle.tpm_wire.proofs.Again.{read_again}
use Rattle.tpm_wire.proofs.Buffers.{buffer_roomy, buffer_sound}
use Rattle.tpm_wire.proofs.Whole.{read_spells}
use Rattle.tpm_model.specs.Steps.{History, PowerCycle, Origin, new_origin}
use Rattle.tpm_model.specs.Counters.{NvMemory, nv_memory}
use Rattle.tpm_model.specs.Present.{Present, present}
use Rattle.tpm_model.specs.Kept.{kept_memory, restored}
use Rattle.tpm_model.proofs.Restored.{restored_stands}
use Rattle.tpm_device.specs.declared.device.Device.{Device}
use Rattle.tpm_device.specs.Stands.{holds, Stands}

-- What has a spelling is spelled by it.
pub spelled_nv : (o : Origin) (h : History) (d : Device) (bytes : List ℕ) → ((left : ℕ) → Fits left kept_memory (holds d).nv)
    → bytes ≡ spelling kept_memory (holds d).nv → Stands o h d → Spells kept_memory (nv_memory o h) bytes
spelled_nv o h d bytes fits is stands =
    let nv : (holds d).nv ≡ nv_memory o h = ap (λ (p : Present). p.nv) stands in
    rw (is, ← nv) (read_spells buffer buffer_sound kept_memory (spelling kept_memory (holds d).nv) (holds d).nv
    (read_again buffer buffer_roomy kept_memory (holds d).nv (fits _)))

-- What was made of the NV memory that the bytes spell stands where a power cycle leaves a device whose NV memory they spell.
pub made_stands : (o : Origin) (h : History) (owner bytes : List ℕ) (nv : NvMemory) (p : Present) → p ≡ restored owner nv
    → Spells kept_memory nv bytes → o.owner ≡ owner → Spells kept_memory (nv_memory o h) bytes → p ≡ present o (PowerCycle ∷ h)
made_stands o h owner bytes nv p made read same kept =
    made ∙ ap (λ (w : List ℕ). restored w nv) (sym same) ∙ restored_stands o h nv bytes kept read

-- A device that was just made has, with another NV memory, what is made of the same owner's value and that memory.
pub new_with : (owner : List ℕ) (greatest : ℕ) (p : Present) (nv : NvMemory) → p ≡ present (new_origin owner greatest) []
    → record p { nv = nv } ≡ restored owner nv
new_with owner greatest p nv new = ap (λ (q : Present). record q { nv = nv }) new

-- It stands where a power cycle leaves a device of this owner's value whose NV memory the bytes spell.
pub read_stands : (bytes : List ℕ) (p : Present) (nv : NvMemory) (r : Result (Unit {0}) Refusal) → Decodes kept_memory (λ _. nv) bytes r
    → OnOk r ((o : Origin) (h : History) (greatest : ℕ) → p ≡ present (new_origin o.owner greatest) []
    → Spells kept_memory (nv_memory o h) bytes → record p { nv = nv } ≡ present o (PowerCycle ∷ h))
read_stands bytes p nv (Ok u) read = λ o h greatest new kept.
    made_stands o h o.owner bytes nv (record p { nv = nv }) (new_with o.owner greatest p nv new) read refl kept
read_stands bytes p nv (Err e) faulty = tt
