use Rattle.tpm_model.specs.Kept.{restored}
use Rattle.tpm_device.specs.Stands.{holds}
use Rattle.tpm_device.proofs.KeptAgain.{made_stands}
use Rattle.tpm_device.proofs.device.Device.of_counters.Goals as goal
use Rattle.std.proofs.Common.{◌≡◌, false, rules}
use Rattle.tpm_device.specs.declared.device.Device.{Device}

pub returns-clause-stands : goal.returns-clause-stands
returns-clause-stands c o h bytes read same kept =
    let d : Device = record {
      owner = c.new.result;
      started = false;
      registers = c.new-2.result;
      sessions = c.no_sessions.result;
      counters = c.args.counters;
    } in
    let made : holds d ≡ restored c.args.owner.now c.args.counters = search rules in
    made_stands o h c.args.owner.now bytes c.args.counters (holds d) made read same kept
