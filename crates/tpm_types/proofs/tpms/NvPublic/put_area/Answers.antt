use Rattle.std.proofs.Common.{ap, arith, length, length-append, append_assoc}
use Rattle.std.proofs.lemmas.List.{append-nil}
use Rattle.tpm_types.specs.Tpms.{nv_public_area}
use Rattle.tpm_types.proofs.tpms.NvPublic.put_area.Goals as goal

pub put-requires : goal.put-requires
unfolding nv_public_area
put-requires g c = omega (arith, simp length-append at c.requires)

pub put-requires-2 : goal.put-requires-2
unfolding nv_public_area
put-requires-2 g c = omega (arith, simp length-append at c.requires, simp length-append at (ap length c.put.ensures))

pub put-requires-3 : goal.put-requires-3
unfolding nv_public_area
put-requires-3 g c = omega (
  arith,
  simp length-append at c.requires,
  simp length-append at (ap length c.put.ensures),
  simp length-append at (ap length c.put-2.ensures),
)

pub put-requires-4 : goal.put-requires-4
unfolding nv_public_area
put-requires-4 g c = omega (
  arith,
  simp length-append at c.requires,
  simp length-append at (ap length c.put.ensures),
  simp length-append at (ap length c.put-2.ensures),
  simp length-append at (ap length c.put-3.ensures),
)

pub put-requires-5 : goal.put-requires-5
unfolding nv_public_area
put-requires-5 g c = omega (
  arith,
  simp length-append at c.requires,
  simp length-append at (ap length c.put.ensures),
  simp length-append at (ap length c.put-2.ensures),
  simp length-append at (ap length c.put-3.ensures),
  simp length-append at (ap length c.put-4.ensures),
)

pub returns : goal.returns
unfolding nv_public_area
returns g c = rw (c.put-5.ensures, c.put-4.ensures, c.put-3.ensures, c.put-2.ensures, c.put.ensures) (simp (append_assoc, append-nil))
