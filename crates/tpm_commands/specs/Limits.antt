-- How long the parameters of a command or of a reply may be.
use Rattle.std.specs.Prelude.{ℕ}

-- more bytes than those of any command and of any reply of the profile
abbrev pub most_params : ℕ
most_params = 3500

-- as many bytes as those of a reply have, which is TPM2_PCR_Read's with eight digests of 48 bytes
abbrev pub most_reply_params : ℕ
most_reply_params = 430
