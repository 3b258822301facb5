use Rattle.std.proofs.Common.{◌≡◌, ◌++◌, ◌+◌, string_bytes, drop}
use Rattle.tpm_output.specs.Text.{lines_from}
use Rattle.tpm_script.specs.MemoryText.{counter_line}
use Rattle.tpm_script.proofs.memory_text.push_counters.Given as goal

-- the lines so far and those of what is left are those of all
abbrev pub invariant-loop-before : goal.invariant-loop-before
invariant-loop-before l =
    string_bytes l.text ++ lines_from counter_line (l.before + 1) (drop l.before l.counters)
    ≡ string_bytes l.initial.text ++ lines_from counter_line 1 l.counters
