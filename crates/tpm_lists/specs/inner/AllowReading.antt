-- What was read of a list of allowed digests.
use Rattle.std.specs.Prelude.{◌≡◌, ℕ, ◌++◌, ◌||◌, Bool, false, true, length, take, MatchOption, List, [], ◌∷◌}
use Rattle.std.specs.Prelude.{Option, Some, None, Ok, Err}
use Rattle.std.specs.List.{list_any, slice_split}
use Rattle.tpm_vouched.specs.declared.allowed.AllowedDigest.{AllowedDigest}
use Rattle.tpm_lists.specs.AllowLines.{AllowRead, allowing, allowing_in, begins_comment, is_feed}
use Rattle.tpm_lists.specs.ListLines.{first_word, is_space}
use Rattle.tpm_lists.specs.declared.allow_lines.AllowLine.TheVariants.{Wrong}
use Rattle.tpm_lists.specs.declared.allow_lines.Front.{Front}
use Rattle.tpm_output.specs.Text.{bytes_in}

-- these digests, and what the lines behind them say
abbrev pub behind_these : List AllowedDigest → AllowRead → AllowRead
behind_these found (Ok digests) = Ok (found ++ digests)
behind_these found (Err number) = Err number

-- the lines that are left of a list, where there are some
abbrev pub lines_left : Option (List ℕ) → List (List ℕ)
lines_left None = []
lines_left (Some bytes) = slice_split is_feed bytes

-- What stands before the digits of a line tells what it says of them, and has neither a comment nor a line feed.
abbrev pub IsFront : Front → Type 0
IsFront front =
    ((behind : List ℕ) → allowing_in (front.text.now ++ behind)
    ≡ allowing front.bank front.register (bytes_in (first_word behind)))
    × (list_any begins_comment front.text.now ≡ false)
    × (list_any is_feed front.text.now ≡ false)

-- what stands before the digits of these words of a line, which are wrong where there is none
abbrev pub IsFrontOf : (text : List ℕ) → Option Front → Type 0
IsFrontOf text front =
    MatchOption front (allowing_in text ≡ Wrong)
    (λ f. IsFront f × (take (length f.text.now) text ≡ f.text.now))

-- A word ends before a space, a comment and the end.
abbrev pub ends_word : (behind : List ℕ) → Bool
ends_word [] = true
ends_word (byte ∷ rest) = is_space byte || begins_comment byte
