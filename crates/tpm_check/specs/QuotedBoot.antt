-- What `check --secure-boot` and `check --attest --allow` print of a log (this profile).
use Rattle.std.specs.Prelude.{ℕ, List, MatchOption}
use Rattle.tpm_output.specs.declared.status.Status.{Status}
use Rattle.tpm_check.specs.AllowedBoot.{ChecksBeside}
use Rattle.tpm_check.specs.Asked.{Asked}
use Rattle.tpm_check.specs.SecureBootLines.{TellsSecureBoot}

-- Beside a quote the verdict of each bank whose register 7 it selects, and what is said beside a list of allowed
-- digests, where there is one; without a quote the verdict of each bank that the log lists.
abbrev pub ChecksBoot : Asked → List ℕ → Status → List ℕ → Type 0
ChecksBoot a bytes status text =
    MatchOption a.attest (TellsSecureBoot a.options bytes status text)
    (λ attest. ChecksBeside a.options (record { attest = attest; allow = a.allow }) bytes status text)
