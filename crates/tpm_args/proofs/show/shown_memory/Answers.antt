use Rattle.std.proofs.Common.{rules, refl}
use Rattle.tpm_args.proofs.show.shown_memory.Goals as goal

pub returns : goal.returns
returns c = (refl, c.requires.file, search rules, search rules, search rules, search rules, search rules, search rules, search rules, search rules)
