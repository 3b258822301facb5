use Rattle.std.proofs.Common.{◌<◌, ◌∙◌, ◌||◌, ap, arith, length, Bool}
use Rattle.std.proofs.lemmas.List.{drop_more}
use Rattle.clap.specs.Built.{AddsSubcommand}
use Rattle.clap.specs.Simple.{App, app_of, with_subcommand}
use Rattle.clap.specs.declared.builder.command.Command.TheViews.{out-Command}
use Rattle.clap.specs.declared.builder.command.Command.{Command}
use Rattle.tpm_words.specs.Program.{IsApp, IsLocal}
use Rattle.tpm_words.specs.declared.subcommand.Subcommand.TheVariants.{Show}
use Rattle.tpm_words.proofs.program.with_subcommands.Goals as goal

adds : (old sub new : Command) (added : App) → IsLocal old → IsApp added sub → AddsSubcommand old sub new
    → IsApp (with_subcommand (app_of old) added.top) new
adds old sub new added o s a = (
  a.shape s.1 ∙ ap (λ (x : App). with_subcommand (app_of old) x.top) s.0,
  a.globals ∙ (ap (λ (b : Bool). b || (out-Command sub).has_globals) o ∙ s.1),
)

pub loop-subcommand-preserved : goal.loop-subcommand-preserved
loop-subcommand-preserved c =
    let step = c.loop-subcommand in
    let added = adds step.program c.in_ok-words.field-0 c.in_ok-program.program _ step.invariant.local c.in_ok-words.ensures
    c.in_ok-program.ensures in
    let more : step.subcommand-index < length c.args.subcommands.now = omega arith in
    record { whole = rw added.0 (rw (drop_more _ _ Show more) at step.invariant.whole); local = added.1 }
