use Rattle.std.proofs.Common.{ap, arith, length, length-append, append_assoc}
use Rattle.std.proofs.lemmas.List.{append-nil}
use Rattle.tpm_commands.specs.Commands.Nv.{nv_define_space}
use Rattle.tpm_commands.proofs.commands.nv.NvDefineSpace.put.Goals as goal

pub put-requires : goal.put-requires
unfolding nv_define_space
put-requires g c = omega (arith, simp length-append at c.requires)

pub put-requires-2 : goal.put-requires-2
unfolding nv_define_space
put-requires-2 g c = omega (arith, simp length-append at c.requires, simp length-append at (ap length c.put.ensures))

pub returns : goal.returns
unfolding nv_define_space
returns g c = rw (c.put-2.ensures, c.put.ensures) (simp (append_assoc, append-nil))
