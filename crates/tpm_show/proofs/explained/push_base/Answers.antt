use Rattle.std.proofs.Common.{refl, append_assoc}
use Rattle.tpm_show.specs.Explain.{base_line}
use Rattle.tpm_show.proofs.explained.push_base.Goals as goal

pub returns : goal.returns
unfolding base_line
returns c = (refl, simp append_assoc c.in_ok-writeln.ensures.bytes)
