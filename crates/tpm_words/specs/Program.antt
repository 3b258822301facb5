-- The program's subcommands and their words, as clap reads them (this profile).
use Rattle.std.specs.Prelude.{◌≡◌, ◌++◌, true, false, List, [], ◌∷◌, Some, codes}
use Rattle.clap.specs.declared.builder.action.ArgAction.TheVariants.{SetTrue}
use Rattle.clap.specs.declared.builder.command.Command.TheViews.{out-Command}
use Rattle.clap.specs.declared.builder.command.Command.{Command}
use Rattle.clap.specs.Words.{App, Rule, Text, app_of, new_app, new_rule, with_rule, with_subcommand}
use Rattle.tpm_words.specs.declared.subcommand.Subcommand.TheVariants.{Show, Build, Run, Explain, Check, Events}
use Rattle.tpm_words.specs.declared.subcommand.Subcommand.{Subcommand}

-- a word that has to be there
abbrev pub required_rule : Text → Rule
required_rule name = record (new_rule name) { required = true }

-- a word that may be there
abbrev pub optional_rule : Text → Rule
optional_rule name = new_rule name

-- a flag, as --fields
abbrev pub flag_rule : Text → Rule
flag_rule name = record (new_rule name) { long = Some name; action = Some SetTrue }

-- an option with a value, as --owner HEX
abbrev pub option_rule : Text → Rule
option_rule name = record (new_rule name) { long = Some name; value_names = 1 }

-- words that come behind those of a command
abbrev pub with_rules : App → List Rule → App
with_rules app [] = app
with_rules app (rule ∷ rules) = with_rules (with_rule app rule) rules

-- what is expected of a quote as it was signed: [--nonce HEX] [--any-nonce] [--require LIST] [--any-selection]
-- [--signer HEX] [--hash NAME]
abbrev pub quote_rules : List Rule
quote_rules =
    option_rule (codes "nonce") ∷ flag_rule (codes "any-nonce") ∷ option_rule (codes "require")
    ∷ flag_rule (codes "any-selection") ∷ option_rule (codes "signer") ∷ option_rule (codes "hash") ∷ []

-- show [--reply NAME] [--fields] [--file FILE] [--binary] [--json] [--pcap FILE] [--port N] [--nv FILE] [HEX]
-- build NAME HANDLES SESSIONS PARAMETERS
-- run [--owner HEX] [--greatest N]
-- explain [--decimal] CODE
-- check LOG [--registers FILE] [--quote HEX] [--attest FILE] .. [--allow FILE] [--secure-boot] [--any-state]
-- [--extends] [--listed] [--json]
-- events LOG [--register LIST] [--places] [--digests] [--data] [--attest FILE] .. [--header] [--json]
abbrev pub subcommand_app : Subcommand → App
subcommand_app Show = with_rules (new_app (codes "show"))
    (option_rule (codes "reply") ∷ flag_rule (codes "fields") ∷ option_rule (codes "file") ∷ flag_rule (codes "binary")
    ∷ flag_rule (codes "json") ∷ option_rule (codes "pcap") ∷ option_rule (codes "port") ∷ option_rule (codes "nv")
    ∷ optional_rule (codes "HEX") ∷ [])
subcommand_app Build = with_rules (new_app (codes "build"))
    (required_rule (codes "NAME") ∷ required_rule (codes "HANDLES") ∷ required_rule (codes "SESSIONS")
    ∷ required_rule (codes "PARAMETERS") ∷ [])
subcommand_app Run = with_rules (new_app (codes "run"))
    (option_rule (codes "owner") ∷ option_rule (codes "greatest") ∷ [])
subcommand_app Explain = with_rules (new_app (codes "explain"))
    (flag_rule (codes "decimal") ∷ required_rule (codes "CODE") ∷ [])
subcommand_app Check = with_rules (new_app (codes "check"))
    (required_rule (codes "LOG") ∷ option_rule (codes "registers") ∷ option_rule (codes "quote")
    ∷ option_rule (codes "attest") ∷ (quote_rules ++ option_rule (codes "allow") ∷ flag_rule (codes "secure-boot")
    ∷ flag_rule (codes "any-state") ∷ flag_rule (codes "extends") ∷ flag_rule (codes "listed")
    ∷ flag_rule (codes "json") ∷ []))
subcommand_app Events = with_rules (new_app (codes "events"))
    (required_rule (codes "LOG") ∷ option_rule (codes "register") ∷ flag_rule (codes "places")
    ∷ flag_rule (codes "digests") ∷ flag_rule (codes "data") ∷ option_rule (codes "attest")
    ∷ (quote_rules ++ flag_rule (codes "header") ∷ flag_rule (codes "json") ∷ []))

-- one of the subcommands, or a version
abbrev pub above_subcommands : App
above_subcommands = record (new_app (codes "tpmtool")) {
  top = record (new_app
      (codes "tpmtool")).top { subcommand_required = true; has_version = true; has_long_version = true };
}

-- subcommands that come behind those of a command
abbrev pub with_subcommands : App → List Subcommand → App
with_subcommands app [] = app
with_subcommands app (sub ∷ subs) = with_subcommands (with_subcommand app (subcommand_app sub).top) subs

abbrev pub program_app : App
program_app = with_subcommands above_subcommands (Show ∷ Build ∷ Run ∷ Explain ∷ Check ∷ Events ∷ [])

-- A command has no words that it shares with its subcommands.
abbrev pub IsLocal : Command → Type 0
IsLocal c = (out-Command c).has_globals ≡ false

-- A command has these words, and none that it shares with its subcommands.
abbrev pub IsApp : App → Command → Type 0
IsApp words c = (app_of c ≡ words) × IsLocal c
