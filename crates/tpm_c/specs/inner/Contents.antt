-- What is told by its place from the end.
use Rattle.std.specs.Prelude.{◌≤◌, ℕ, length}
use Rattle.tpm_event_data.specs.Contents.{Content}
use Rattle.tpm_event_data.specs.Contents as contents
use Rattle.tpm_event_data.specs.DeviceSecurities as devices

-- It has no more than so many bytes.
abbrev pub Fits : ℕ → Content → Type 0
Fits size (contents.Tables t) = length t.entries ≤ size
Fits size (contents.Device (devices.Second d)) = length d.context ≤ size
Fits size _ = Unit {0}
