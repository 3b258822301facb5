use Rattle.std.proofs.Common.{◌≡◌, ◌≤◌, ◌+◌, ◌++◌, ℕ, List, Option, Some, None, length, option_map}
use Rattle.std.specs.Prelude.{IfSome}
use Rattle.std.specs.List.{slice_split}
use Rattle.tpm_lists.specs.AllowLines.{is_feed}
use Rattle.tpm_lists.specs.inner.ListReading.{said_with}
use Rattle.tpm_lists.specs.inner.AllowReading.{IsFront, lines_left}
use Rattle.tpm_lists.proofs.allow_file.EndedLines.read.Given as goal

-- how many bytes are left at most, and one more where there is a line
abbrev left_size : Option (List ℕ) → ℕ
left_size None = 0
left_size (Some bytes) = length bytes + 1

-- What was found, and what is left, is all.
abbrev pub invariant-loop-left : goal.invariant-loop-left
invariant-loop-left l = record {
  number : l.self.number + left_size (option_map (λ b. b.now) l.left) ≤ l.fn.self.number + length l.lines + 1;
  few : length l.self.found.items + l.fn.self.number ≤ length l.fn.self.found.items + l.self.number;
  said : (others : List (List ℕ)) → said_with l.fn.self (slice_split is_feed l.lines ++ others)
      ≡ said_with l.self (lines_left (option_map (λ b. b.now) l.left) ++ others);
  front : IfSome l.front IsFront;
}

abbrev pub decreases-loop-left : goal.decreases-loop-left
decreases-loop-left l = left_size (option_map (λ b. b.now) l.left)
