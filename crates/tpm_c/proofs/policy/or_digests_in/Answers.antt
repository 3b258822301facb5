use Rattle.std.proofs.Common.{◌∙◌, arith}
use Rattle.tpm_wire.proofs.Alone.{whole_is}
use Rattle.tpm_types.specs.Tpml.{or_digests}
use Rattle.tpm_c.proofs.Lists.{of_or_digests}
use Rattle.tpm_c.proofs.policy.or_digests_in.Goals as goal

pub returns : goal.returns
returns c = c.take_whole.ensures ∙ whole_is 404 or_digests of_or_digests (omega arith) c.args.bytes.now
