-- What a subcommand's words ask for, or what stops them.
use Rattle.std.specs.Prelude.{Option, Result, MatchOption, MatchResult}
use Rattle.clap.specs.Words.{Text, first_value, found_of}
use Rattle.clap.specs.declared.parser.matches.ArgMatches.{ArgMatches}
use Rattle.tpm_args.specs.declared.stop.Stop.TheVariants.{Help, Usage, Memory}
use Rattle.tpm_args.specs.declared.stop.Stop.{Stop}
use Rattle.tpm_args.specs.declared.task.Task.{Task}
use Rattle.tpm_args.specs.Task.{AsksWith}
use Rattle.tpm_args.specs.inner.Task.{AsksNothingWith}

-- want of memory, or a usage fault for this reason
abbrev pub IsMemoryOr : Type 0 → Stop → Type 0
IsMemoryOr Reason (Help text) = ⊥
IsMemoryOr Reason (Usage text) = Reason
IsMemoryOr Reason Memory = Unit {0}

-- what the words of a subcommand of this name ask for, or the end where they ask for nothing
abbrev pub IsAsked : Text → ArgMatches → Result Task Stop → Type 0
IsAsked name words asked = MatchResult asked (AsksWith name (first_value (found_of words)))
    (IsMemoryOr (AsksNothingWith name (first_value (found_of words))))

-- what words of a subcommand of this name ask for, if anything
abbrev pub AsksIfAny : Text → ArgMatches → Option Task → Type 0
AsksIfAny name words task = MatchOption task
    (AsksNothingWith name (first_value (found_of words))) (AsksWith name (first_value (found_of words)))
