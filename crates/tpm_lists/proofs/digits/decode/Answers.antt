use Rattle.std.proofs.Common.{sym, ◌∙◌}
use Rattle.tpm_lists.proofs.Spelling.{none_spelled}
use Rattle.tpm_lists.proofs.digits.decode.Goals as goal

pub returns-then-not-are_digits : goal.returns-then-not-are_digits
returns-then-not-are_digits c = none_spelled c.args.digits.now (sym c.are_digits.ensures ∙ c.if-not-are_digits.true)
