use Rattle.tpm_args.proofs.explain.number_in.Goals as goal

pub returns-then-decimal : goal.returns-then-decimal
returns-then-decimal c = rw c.if-decimal.true c.short_decimal.ensures

pub returns-else-decimal : goal.returns-else-decimal
returns-else-decimal c = rw c.if-decimal.false c.number.ensures
