use Rattle.std.proofs.Common.{◌∙◌, arith}
use Rattle.tpm_wire.proofs.Alone.{whole_is}
use Rattle.tpm_types.specs.Tpml.{selections}
use Rattle.tpm_c.proofs.Lists.{of_selections}
use Rattle.tpm_c.proofs.policy.selections_in.Goals as goal

pub returns : goal.returns
returns c = c.take_whole.ensures ∙ whole_is 22 selections of_selections (omega arith) c.args.bytes.now
