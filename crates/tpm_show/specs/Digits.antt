-- Buffers in hexadecimal as people write them: with blanks between the digits, and `0x` before them (this profile).
use Rattle.std.specs.Prelude.{ℕ, ◌==◌, ◌||◌, Bool, not, List, take, drop, filter, codes, Option, if◌then◌else◌}
use Rattle.std.specs.Str.{bytes_eq}
use Rattle.tpm_output.specs.Text.{bytes_in}

-- a space, a tab or a carriage return
abbrev pub is_blank : ℕ → Bool
is_blank byte = byte == 32 || (byte == 9 || byte == 13)

abbrev pub without_blanks : List ℕ → List ℕ
without_blanks text = filter (λ byte. not (is_blank byte)) text

-- the digits behind `0x`, or all where it isn't there
abbrev pub without_prefix : List ℕ → List ℕ
without_prefix text = if bytes_eq (take 2 text) (codes "0x") then drop 2 text else text

-- the bytes of a buffer, where a text is one
abbrev pub buffer_in : List ℕ → Option (List ℕ)
buffer_in text = bytes_in (without_prefix (without_blanks text))
