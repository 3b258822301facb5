use Rattle.std.proofs.Common.{◌∙◌}
use Rattle.tpm_c.proofs.Allowing.{allows_of}
use Rattle.tpm_c.proofs.allowed.allows.Goals as goal

pub returns : goal.returns
returns c = c.is_listed.ensures ∙ allows_of c.args.bank c.args.pcr c.args.digest.now c.args.list.now
