use Rattle.tpm_wire.proofs.Whole.{exactly_one}
use Rattle.tpm_wire.proofs.laws.one_reading.Goals as goal

pub returns : goal.returns
returns g c = exactly_one g.T.Laid.rules c.sound.ensures g.T.Laid.layout
