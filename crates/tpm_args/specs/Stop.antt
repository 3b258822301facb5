-- What becomes of the words that are refused.
use Rattle.std.specs.Prelude.{◌≡◌, ◌≢◌, ◌⊎◌, List, [], true, false}
use Rattle.clap.specs.Words.{IsAmong, Text, fault_of, subcommand_of, takes}
use Rattle.clap.specs.declared.error.kind.ErrorKind.TheVariants.{DisplayHelp, DisplayVersion, OutOfMemory}
use Rattle.clap.specs.declared.error.kind.ErrorKind.{ErrorKind}
use Rattle.tpm_args.specs.declared.stop.Stop.TheVariants.{Help, Usage, Memory}
use Rattle.tpm_args.specs.declared.stop.Stop.{Stop}
use Rattle.tpm_words.specs.Program.{program_app}
use Rattle.tpm_args.specs.Task.{AsksNothing}

-- a text that was asked for
abbrev pub IsHelp : ErrorKind → Type 0
IsHelp kind = (kind ≡ DisplayHelp) ⊎ (kind ≡ DisplayVersion)

-- a fault of the words
abbrev pub IsUsage : ErrorKind → Type 0
IsUsage kind = (kind ≢ DisplayHelp) × (kind ≢ DisplayVersion) × (kind ≢ OutOfMemory)

-- The kind of the error tells help from usage; the text of either may want memory.
abbrev pub StopsFor : ErrorKind → Stop → Type 0
StopsFor kind (Help text) = IsHelp kind
StopsFor kind (Usage text) = IsUsage kind
StopsFor kind Memory = Unit {0}

-- clap may refuse the words with an error of such a kind
abbrev pub FailsWith : List Text → (ErrorKind → Type 0) → Type 0
FailsWith words IsOf = (kind : ErrorKind) × IsAmong kind (fault_of program_app words) × IsOf kind

-- Help is answered only where clap doesn't take the words and its error is of help. A usage fault is answered only
-- where its error is another, or where it finds no fault and the words ask for nothing.
abbrev pub Refuses : List Text → Stop → Type 0
Refuses words (Help text) = (takes program_app words ≡ false) × FailsWith words IsHelp
Refuses words (Usage text) =
    (takes program_app words ≡ true → AsksNothing (subcommand_of program_app words))
    × (FailsWith words IsUsage
    ⊎ ((fault_of program_app words ≡ []) × AsksNothing (subcommand_of program_app words)))
Refuses words Memory = Unit {0}
