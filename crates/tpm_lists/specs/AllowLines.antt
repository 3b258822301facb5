-- What a list of allowed digests says (this profile).
use Rattle.std.specs.Prelude.{ℕ, ◌+◌, ◌==◌, Bool, List, [], ◌∷◌, length, if◌then◌else◌, Option, Some, None}
use Rattle.std.specs.Prelude.{Result, Ok, Err}
use Rattle.std.specs.List.{before_first, list_all, slice_split}
use Rattle.tpm_types.specs.declared.alg.Alg.{Alg}
use Rattle.tpm_types.specs.Alg.{digest_len}
use Rattle.tpm_output.specs.Text.{bytes_in}
use Rattle.tpm_vouched.specs.declared.allowed.AllowedDigest.{AllowedDigest}
use Rattle.tpm_lists.specs.declared.allow_lines.AllowLine.TheVariants.{Allows, Nothing, Wrong}
use Rattle.tpm_lists.specs.declared.allow_lines.AllowLine.{AllowLine}
use Rattle.tpm_lists.specs.ListLines.{bank_named, behind_word, first_word, is_space, register_named}

-- ---- a line

abbrev pub begins_comment : ℕ → Bool
begins_comment byte = byte == 35

-- what a line says before a comment
abbrev pub before_comment : List ℕ → List ℕ
before_comment line = before_first begins_comment line

abbrev pub is_blank : List ℕ → Bool
is_blank text = list_all is_space text

-- a digest for a register of the bank, which has as many bytes as those of its hash
abbrev pub allowing : Alg → (register : ℕ) → Option (List ℕ) → AllowLine
allowing bank register None = Wrong
allowing bank register (Some bytes) =
    if length bytes == digest_len bank then Allows (record { register = register; digest = (bank, bytes) }) else Wrong

abbrev pub allowing_named : Option Alg → Option ℕ → (digits : List ℕ) → AllowLine
allowing_named (Some bank) (Some register) digits = allowing bank register (bytes_in digits)
allowing_named _ _ digits = Wrong

-- A bank, a register and a digest, with a space between them. Words behind the digest say nothing.
abbrev pub allowing_in : List ℕ → AllowLine
allowing_in text =
    allowing_named (bank_named (first_word text)) (register_named (first_word (behind_word text)))
    (first_word (behind_word (behind_word text)))

abbrev pub allow_line : List ℕ → AllowLine
allow_line line =
    if is_blank (before_comment line) then Nothing else allowing_in (before_comment line)

-- ---- a list

-- the digests of a list, or the number of the first line that is wrong
abbrev pub AllowRead : Type 0
AllowRead = Result (List AllowedDigest) ℕ

-- a line of this number, and what those behind it say
abbrev pub with_allowed : (number : ℕ) → AllowLine → AllowRead → AllowRead
with_allowed n (Allows digest) (Ok digests) = Ok (digest ∷ digests)
with_allowed n (Allows digest) (Err number) = Err number
with_allowed n Nothing read = read
with_allowed n Wrong read = Err n

-- Of these lines the first has number n.
abbrev pub allowed_from : (n : ℕ) → List (List ℕ) → AllowRead
allowed_from n [] = Ok []
allowed_from n (line ∷ lines) = with_allowed n (allow_line line) (allowed_from (n + 1) lines)

abbrev pub is_feed : ℕ → Bool
is_feed byte = byte == 10

abbrev pub allowed_in : List ℕ → AllowRead
allowed_in bytes = allowed_from 1 (slice_split is_feed bytes)
