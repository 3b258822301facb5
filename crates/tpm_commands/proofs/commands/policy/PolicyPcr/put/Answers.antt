use Rattle.std.proofs.Common.{ap, arith, length, length-append, append_assoc}
use Rattle.std.proofs.lemmas.List.{append-nil}
use Rattle.tpm_commands.specs.Commands.Policy.{policy_pcr}
use Rattle.tpm_commands.proofs.commands.policy.PolicyPcr.put.Goals as goal

pub put-requires : goal.put-requires
unfolding policy_pcr
put-requires g c = omega (arith, simp length-append at c.requires)

pub put-requires-2 : goal.put-requires-2
unfolding policy_pcr
put-requires-2 g c = omega (arith, simp length-append at c.requires, simp length-append at (ap length c.put.ensures))

pub returns : goal.returns
unfolding policy_pcr
returns g c = rw (c.put-2.ensures, c.put.ensures) (simp (append_assoc, append-nil))
