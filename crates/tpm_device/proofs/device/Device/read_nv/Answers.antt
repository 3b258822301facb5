use Rattle.tpm_device.specs.Stands.{holds}
use Rattle.tpm_device.proofs.KeptAgain.{new_with, read_stands}
use Rattle.tpm_device.proofs.device.Device.read_nv.Goals as goal

pub returns-clause-made : goal.returns-clause-made
returns-clause-made c owner greatest new = new_with owner greatest (holds c.args.self.now) c.read_bytes.new.self new

pub returns-clause-stands : goal.returns-clause-stands
returns-clause-stands c =
    read_stands c.args.bytes.now (holds c.args.self.now) c.read_bytes.new.self c.read_bytes.result c.read_bytes.ensures
