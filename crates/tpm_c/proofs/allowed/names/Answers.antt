use Rattle.std.proofs.Common.{◌∙◌}
use Rattle.tpm_c.proofs.Allowing.{names_of}
use Rattle.tpm_c.proofs.allowed.names.Goals as goal

pub returns : goal.returns
returns c = c.is_named.ensures ∙ names_of c.args.bank c.args.pcr c.args.list.now
