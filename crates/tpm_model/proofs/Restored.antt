-- A device that is made again of its NV memory is one after a power cycle.
use Rattle.std.proofs.Common.{◌≡◌, ℕ, List, [], ◌∷◌, ◌++◌, refl, sym, ap, ◌∙◌}
use Rattle.tpm_wire.specs.Path.{Spells}
use Rattle.tpm_wire.specs.Buffers.{buffer}
use Rattle.tpm_wire.proofs.Buffers.{buffer_sound}
use Rattle.tpm_wire.proofs.Whole.{exactly_one}
use Rattle.tpm_model.specs.Steps.{History, PowerCycle, Origin}
use Rattle.tpm_model.specs.Counters.{NvMemory, nv_memory}
use Rattle.tpm_model.specs.Present.{present}
use Rattle.tpm_model.specs.Kept.{kept_memory, restored}
use Rattle.tpm_model.specs.Answers.{answer, next}
use Rattle.tpm_model.specs.Runs.Stimulus.{Given, Cycled}
use Rattle.tpm_model.specs.Runs.{Stimulus, after, run}
use Rattle.tpm_model.proofs.Runs.{after-append}

pub restored_stands : (o : Origin) (h : History) (nv : NvMemory) (bytes : List ℕ) → Spells kept_memory (nv_memory o h) bytes
    → Spells kept_memory nv bytes → restored o.owner nv ≡ present o (PowerCycle ∷ h)
restored_stands o h nv bytes kept read =
    ap (restored o.owner) ((exactly_one buffer buffer_sound kept_memory bytes).one_value nv (nv_memory o h) read kept)

run-append : (o : Origin) (h : History) (es fs : List Stimulus) → run o h (es ++ fs) ≡ run o h es ++ run o (after o h es) fs
run-append o h [] fs = refl
run-append o h (Given bytes nonce ∷ es) fs = ap (λ (rs : List (List ℕ)). answer o h bytes nonce ∷ rs) (run-append o (next o h bytes nonce) es fs)
run-append o h (Cycled ∷ es) fs = run-append o (PowerCycle ∷ h) es fs

pub cycled_after : (o : Origin) (es : List Stimulus) → PowerCycle ∷ after o [] es ≡ after o [] (es ++ Cycled ∷ [])
cycled_after o es = sym (after-append o [] es (Cycled ∷ []))

pub restored_after : (o : Origin) (es : List Stimulus) (nv : NvMemory) (bytes : List ℕ) → Spells kept_memory (nv_memory o (after o [] es)) bytes
    → Spells kept_memory nv bytes → restored o.owner nv ≡ present o (after o [] (es ++ Cycled ∷ []))
restored_after o es nv bytes kept read = restored_stands o (after o [] es) nv bytes kept read ∙ ap (present o) (cycled_after o es)

pub run_goes_on : (o : Origin) (es fs : List Stimulus) → run o [] (es ++ Cycled ∷ fs) ≡ run o [] es ++ run o (after o [] (es ++ Cycled ∷ [])) fs
run_goes_on o es fs =
    run-append o [] es (Cycled ∷ fs) ∙ ap (λ (h : History). run o [] es ++ run o h fs) (cycled_after o es)

pub history_goes_on : (o : Origin) (es fs : List Stimulus) → after o [] (es ++ Cycled ∷ fs) ≡ after o (after o [] (es ++ Cycled ∷ [])) fs
history_goes_on o es fs = after-append o [] es (Cycled ∷ fs) ∙ ap (λ (h : History). after o h fs) (cycled_after o es)
