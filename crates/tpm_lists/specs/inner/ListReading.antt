-- What was read of a list of allowed digests while it comes.
use Rattle.std.specs.Prelude.{◌≡◌, ◌≤◌, ◌+◌, ◌++◌, ℕ, List, length, if◌then◌else◌, Err}
use Rattle.std.specs.List.{slice_split}
use Rattle.tpm_lists.specs.AllowLines.{AllowRead, allowed_from, allowed_in, is_feed}
use Rattle.tpm_lists.specs.declared.allow_file.EndedLines.{EndedLines}
use Rattle.tpm_lists.specs.declared.allow_file.ListReader.{ListReader}
use Rattle.tpm_lists.specs.inner.AllowReading.{behind_these}

-- what a list says whose first lines were read, and that has these lines behind them
abbrev pub said_with : EndedLines → (lines : List (List ℕ)) → AllowRead
said_with e lines =
    if e.is_wrong then Err e.number else behind_these e.found.items (allowed_from (e.number + 1) lines)

-- These lines were read behind the others.
pub record ReadsOn (old new : EndedLines) (lines : List ℕ) : Type 0 where
  pub number : new.number ≤ old.number + length lines + 1
  pub few : length new.found.items + old.number ≤ length old.found.items + new.number
  pub said : (others : List (List ℕ)) → said_with old (slice_split is_feed lines ++ others) ≡ said_with new others

-- These bytes of a list were read, and whatever comes behind them is read so.
pub record IsRead (bytes : List ℕ) (r : ListReader) : Type 0 where
  pub number : r.ended.number + length r.held.items ≤ length bytes
  pub few : length r.ended.found.items ≤ r.ended.number
  pub said : (more : List ℕ)
      → allowed_in (bytes ++ more) ≡ said_with r.ended (slice_split is_feed (r.held.items ++ more))
