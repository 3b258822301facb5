use Rattle.std.proofs.Common.{rules, refl}
use Rattle.tpm_args.proofs.show.shown_buffer.Goals as goal

pub returns : goal.returns
returns c = (refl, search rules, search rules, c.requires.digits.0, c.requires.digits.1, cc, search rules, search rules, cc, cc, cc)
