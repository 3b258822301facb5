use Rattle.std.proofs.Common.{◌≡◌, ◌∙◌, ◌||◌, [], ap, Bool, false, get_or}
use Rattle.std.proofs.lemmas.List.{drop_more}
use Rattle.clap.specs.Words.{AddsArg, Rule, app_of, rule_of, with_rule}
use Rattle.clap.specs.declared.builder.arg.Arg.{Arg}
use Rattle.clap.specs.declared.builder.command.Command.{Command}
use Rattle.tpm_words.specs.Program.{IsApp, IsLocal}
use Rattle.tpm_words.specs.inner.Word.{rule_of_word}
use Rattle.tpm_words.specs.declared.word.Kind.TheVariants.{Required}
use Rattle.tpm_words.specs.declared.word.Word.{Word}
use Rattle.tpm_words.proofs.word.with_words.Goals as goal

abbrev no_word : Word
no_word = record {
  name = record { ref_ptr = (0, 0); now = [] };
  kind = Required;
  help = record { ref_ptr = (0, 0); now = [] };
}

adds : (old new : Command) (a : Arg) (rule : Rule) → rule_of a ≡ rule → a.global ≡ false → IsLocal old → AddsArg old a new
    → IsApp (with_rule (app_of old) rule) new
adds old new a rule r l o s = (s.shape l ∙ ap (with_rule (app_of old)) r, s.globals ∙ (ap (λ (b : Bool). b || a.global) o ∙ l))

pub loop-word-preserved : goal.loop-word-preserved
loop-word-preserved c =
    let step = c.loop-word in
    let words = c.args.words.now in
    let added = adds step.command c.in_ok-command.command c.arg.result (rule_of_word (get_or words step.word-index no_word)) c.arg.ensures.rule
    c.arg.ensures.local step.invariant.local c.in_ok-command.ensures in
    record {
      whole = rw added.0 (rw (drop_more words step.word-index no_word c.loop-word-test.true) at step.invariant.whole);
      local = added.1;
    }
