use Rattle.std.proofs.Common.{Some, ap, true}
use Rattle.clap.specs.declared.builder.action.ArgAction.TheVariants.{SetTrue}
use Rattle.clap.specs.Words.{Rule}
use Rattle.tpm_words.proofs.word.arg.Goals as goal

pub returns-in-Required-clause-rule : goal.returns-in-Required-clause-rule
returns-in-Required-clause-rule c =
    rw (c.in-Required.is, c.required.ensures, c.help-arg.ensures)
    (ap (λ (r : Rule). record r { required = true }) c.new.ensures.rule)

pub returns-in-Optional-clause-rule : goal.returns-in-Optional-clause-rule
returns-in-Optional-clause-rule c = rw (c.in-Optional.is, c.help-arg.ensures) c.new.ensures.rule

pub returns-in-Flag-clause-rule : goal.returns-in-Flag-clause-rule
returns-in-Flag-clause-rule c =
    rw (c.in-Flag.is, c.action.ensures, c.long.ensures, c.help-arg.ensures)
    (ap (λ (r : Rule). record r { long = Some c.args.word.now.name.now; action = Some SetTrue }) c.new.ensures.rule)

pub returns-in-Valued-clause-rule : goal.returns-in-Valued-clause-rule
returns-in-Valued-clause-rule c =
    rw (c.in-Valued.is, c.value_name.ensures, c.long-in-Valued.ensures, c.help-arg.ensures)
    (ap (λ (r : Rule). record r { long = Some c.args.word.now.name.now; value_names = 1 }) c.new.ensures.rule)
