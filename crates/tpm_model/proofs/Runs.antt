-- Runs of joined lists.
use Rattle.std.proofs.Common.{◌≡◌, List, [], ◌∷◌, ◌++◌, refl}
use Rattle.tpm_model.specs.Steps.{History, Origin}
use Rattle.tpm_model.specs.Runs.{Stimulus, happens, after}

pub after-append : (o : Origin) (h : History) (es fs : List Stimulus) → after o h (es ++ fs) ≡ after o (after o h es) fs
after-append o h [] fs = refl
after-append o h (e ∷ es) fs = after-append o (happens o h e) es fs
