use Rattle.std.proofs.Common.{ap, arith, length, length-append, append_assoc}
use Rattle.std.proofs.lemmas.List.{append-nil}
use Rattle.tpm_commands.specs.Commands.Session.{start_auth_session}
use Rattle.tpm_commands.proofs.commands.session.StartParams.put.Goals as goal

pub put-requires : goal.put-requires
unfolding start_auth_session
put-requires g c = omega (arith, simp length-append at c.requires)

pub put-requires-2 : goal.put-requires-2
unfolding start_auth_session
put-requires-2 g c = omega (arith, simp length-append at c.requires, simp length-append at (ap length c.put.ensures))

pub put-requires-3 : goal.put-requires-3
unfolding start_auth_session
put-requires-3 g c = omega (
  arith,
  simp length-append at c.requires,
  simp length-append at (ap length c.put.ensures),
  simp length-append at (ap length c.put-2.ensures),
)

pub put-requires-4 : goal.put-requires-4
unfolding start_auth_session
put-requires-4 g c = omega (
  arith,
  simp length-append at c.requires,
  simp length-append at (ap length c.put.ensures),
  simp length-append at (ap length c.put-2.ensures),
  simp length-append at (ap length c.put-3.ensures),
)

pub put-requires-5 : goal.put-requires-5
unfolding start_auth_session
put-requires-5 g c = omega (
  arith,
  simp length-append at c.requires,
  simp length-append at (ap length c.put.ensures),
  simp length-append at (ap length c.put-2.ensures),
  simp length-append at (ap length c.put-3.ensures),
  simp length-append at (ap length c.put-4.ensures),
)

pub returns : goal.returns
unfolding start_auth_session
returns g c = rw (c.put-5.ensures, c.put-4.ensures, c.put-3.ensures, c.put-2.ensures, c.put.ensures) (simp (append_assoc, append-nil))
