use Rattle.std.specs.Prelude.{◌≡◌, drop}
use Rattle.clap.specs.Words.{app_of}
use Rattle.tpm_words.specs.Program.{with_subcommands, IsLocal}
use Rattle.tpm_words.proofs.program.with_subcommands.Given as goal

-- What is added to the program so far, and what is still to come, is all.
abbrev pub invariant-loop-subcommand : goal.invariant-loop-subcommand
invariant-loop-subcommand l = record {
  whole : with_subcommands (app_of l.initial.program) l.subcommands
      ≡ with_subcommands (app_of l.program) (drop l.subcommand-index l.subcommands);
  local : IsLocal l.program;
}
