-- What a list of allowed digests says as a whole (this profile).
use Rattle.std.specs.Prelude.{ℕ, List, length, nat_lt, if◌then◌else◌, Ok, Err}
use Rattle.tpm_output.specs.InputLines.{most_bytes}
use Rattle.tpm_lists.specs.AllowLines.{AllowRead, allowed_in}
use Rattle.tpm_lists.specs.declared.allow_file.AllowFile.TheVariants.{Digests, TooLong, Wrong}
use Rattle.tpm_lists.specs.declared.allow_file.AllowFile.{AllowFile}

-- its digests, or the number of the first line that is wrong
abbrev pub said_by : AllowRead → AllowFile
said_by (Ok digests) = Digests digests
said_by (Err number) = Wrong number

-- One of more bytes is too long.
abbrev pub list_said : List ℕ → AllowFile
list_said bytes = if nat_lt most_bytes (length bytes) then TooLong else said_by (allowed_in bytes)
