use Rattle.std.proofs.Common.{◌≡◌, rules}
use Rattle.tpm_wire.specs.Spelling.{spelling}
use Rattle.tpm_model.specs.Kept.{kept_memory}
use Rattle.tpm_device.proofs.KeptAgain.{spelled_nv}
use Rattle.tpm_device.proofs.device.Device.put_nv.Goals as goal

pub returns-clause-spells : goal.returns-clause-spells
returns-clause-spells c o h stands =
    let is : c.put.new.out.items ≡ spelling kept_memory c.args.self.now.counters = search rules in
    spelled_nv o h c.args.self.now c.put.new.out.items c.has_spelling.ensures.fits is stands
