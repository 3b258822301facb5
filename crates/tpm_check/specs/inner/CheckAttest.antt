-- What a verdict adds to a text.
use Rattle.std.specs.Prelude.{◌≡◌, ℕ, List, ◌++◌}
use Rattle.tpm_output.specs.declared.status.Status.{Status}
use Rattle.tpm_check.specs.Compare.{Verdict}

-- A text was added with its status.
abbrev pub Adds : Verdict → Status → (old new : List ℕ) → Type 0
Adds v status old new = (status ≡ v.status) × (new ≡ old ++ v.text)
