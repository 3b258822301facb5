use Rattle.std.proofs.Common.{◌≡◌, ℕ, List, ◌++◌, IsUtf8, chars}
use Rattle.std.specs.Fmt.{HasWritten, IsPlainFormatter}
use Rattle.std.specs.Str.Iter.{chars_rest}
use Rattle.tpm_program.specs.FaultText.{shown_characters}
use Rattle.tpm_program.proofs.shown_path.ShownPathDisplay.fmt.Given as goal

-- What is written and what the characters that are left give is what all give.
abbrev pub invariant-loop-character : goal.invariant-loop-character
invariant-loop-character g l = IsUtf8 (chars_rest l.character-iterator)
    × (IsPlainFormatter l.initial.f → (done : List ℕ) × HasWritten g.W.Write.write_str_gives l.initial.f done l.f
    × (done ++ shown_characters (chars (chars_rest l.character-iterator)) ≡ shown_characters (chars l.fn.self.path.now)))
