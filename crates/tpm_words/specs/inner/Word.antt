-- What clap is told of a word by its row in the table of a subcommand, and of the subcommand by its own (this profile).
use Rattle.std.specs.Prelude.{map}
use Rattle.clap.specs.Words.{App, Rule, Text, new_app}
use Rattle.tpm_words.specs.Program.{flag_rule, option_rule, optional_rule, required_rule, with_rules}
use Rattle.tpm_words.specs.declared.subcommand.Row.{Row}
use Rattle.tpm_words.specs.declared.word.Kind.TheVariants.{Required, Optional, Flag, Valued}
use Rattle.tpm_words.specs.declared.word.Kind.{Kind}
use Rattle.tpm_words.specs.declared.word.Word.{Word}

abbrev pub rule_of_kind : Kind → Text → Rule
rule_of_kind Required name = required_rule name
rule_of_kind Optional name = optional_rule name
rule_of_kind Flag name = flag_rule name
rule_of_kind (Valued value) name = option_rule name

abbrev pub rule_of_word : Word → Rule
rule_of_word word = rule_of_kind word.kind word.name.now

abbrev pub app_of_row : Row → App
app_of_row row = with_rules (new_app row.name.now) (map rule_of_word row.words.now)
