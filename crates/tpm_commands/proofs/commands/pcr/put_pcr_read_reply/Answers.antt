use Rattle.std.proofs.Common.{ap, arith, length, length-append, append_assoc}
use Rattle.std.proofs.lemmas.List.{append-nil}
use Rattle.tpm_commands.specs.Commands.Pcr.{pcr_read_reply}
use Rattle.tpm_commands.proofs.commands.pcr.put_pcr_read_reply.Goals as goal

pub put-requires : goal.put-requires
unfolding pcr_read_reply
put-requires g c = omega (arith, simp length-append at c.requires)

pub put-requires-2 : goal.put-requires-2
unfolding pcr_read_reply
put-requires-2 g c = omega (arith, simp length-append at c.requires, simp length-append at (ap length c.put.ensures))

pub put-requires-3 : goal.put-requires-3
unfolding pcr_read_reply
put-requires-3 g c = omega (
  arith,
  simp length-append at c.requires,
  simp length-append at (ap length c.put.ensures),
  simp length-append at (ap length c.put-2.ensures),
)

pub returns : goal.returns
unfolding pcr_read_reply
returns g c = rw (c.put-3.ensures, c.put-2.ensures, c.put.ensures) (simp (append_assoc, append-nil))
