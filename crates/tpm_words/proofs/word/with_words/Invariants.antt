use Rattle.std.specs.Prelude.{◌≡◌, map, drop}
use Rattle.clap.specs.Words.{app_of}
use Rattle.tpm_words.specs.Program.{with_rules, IsLocal}
use Rattle.tpm_words.specs.inner.Word.{rule_of_word}
use Rattle.tpm_words.proofs.word.with_words.Given as goal

-- What is added to the command so far, and what is still to come, is all.
abbrev pub invariant-loop-word : goal.invariant-loop-word
invariant-loop-word l = record {
  whole : with_rules (app_of l.initial.command) (map rule_of_word l.words)
      ≡ with_rules (app_of l.command) (map rule_of_word (drop l.word-index l.words));
  local : IsLocal l.command;
}
