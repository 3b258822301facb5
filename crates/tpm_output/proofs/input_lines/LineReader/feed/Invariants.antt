use Rattle.std.proofs.Common.{ℕ, List, true, take, string_bytes}
use Rattle.tpm_output.specs.InputLines.{AddedTo}
use Rattle.tpm_output.specs.inner.LineReading.{Feeds}
use Rattle.tpm_output.proofs.input_lines.LineReader.feed.Given as goal

-- the bytes so far are taken
abbrev pub invariant-loop-byte : goal.invariant-loop-byte
invariant-loop-byte g l = record {
  added : List ℕ;
  is : AddedTo (string_bytes l.fn.text) (string_bytes l.text) added;
  feeds : Feeds g.S.LineSink.limits g.S.LineSink.takes g.S.LineSink.is_at true l.fn.self l.self (take l.byte-index l.piece) added;
}
