use Rattle.tpm_show.specs.Parts.{attributes_set}
use Rattle.tpm_show.proofs.parts.tell_attributes.Goals as goal

pub returns : goal.returns
unfolding attributes_set
returns g c = c.tell_bits.ensures
