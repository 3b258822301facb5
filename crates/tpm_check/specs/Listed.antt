-- What `check --listed` prints of a log (this profile).
use Rattle.std.specs.Prelude.{ℕ, List, Ok}
use Rattle.tpm_pcr.specs.Registers.{Registers, value_in}
use Rattle.tpm_log.specs.Changes.{AreAfter}
use Rattle.tpm_log.specs.Replays.{Replays}
use Rattle.tpm_output.specs.declared.form.Form.{Form}
use Rattle.tpm_output.specs.declared.status.Status.TheVariants.{Done}
use Rattle.tpm_output.specs.declared.status.Status.{Status}
use Rattle.tpm_check.specs.CheckAttest.{Says, ended}
use Rattle.tpm_check.specs.CheckJson.{registers_told}
use Rattle.tpm_check.specs.Compare.{printed}
use Rattle.tpm_check.specs.SecureBootLines.{TellsLog, listed_banks}

-- That is printed of the registers that a log gives in the banks that its header lists. Behind that stands the status,
-- where it is told as objects.
abbrev pub TellsListed : Form → List ℕ → Status → List ℕ → Type 0
TellsListed form bytes status text =
    TellsLog form
    (λ l v. (found : Registers) × Replays AreAfter bytes (Ok found)
    × Says (ended form (printed Done (registers_told form (value_in found.banks) (listed_banks l.hashes))))
    v.status v.text)
    bytes (printed status text)
