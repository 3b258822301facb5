use Rattle.tpm_wire.proofs.Whole.{reads_its_path}
use Rattle.tpm_wire.proofs.laws.one_reading_within.Goals as goal

pub returns : goal.returns
returns g c mark h = reads_its_path g.T.Laid.rules c.sound.ensures mark g.T.Laid.layout h
