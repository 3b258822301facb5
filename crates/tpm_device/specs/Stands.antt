-- A device that holds what is present at a history.
use Rattle.std.specs.Prelude.{◌≡◌}
use Rattle.tpm_model.specs.Steps.{History, Origin}
use Rattle.tpm_model.specs.Present.{Present, present}
use Rattle.tpm_device.specs.declared.device.Device.{Device}

-- what is present on the device
abbrev pub holds : Device → Present
holds d = record {
  started = d.started;
  owner = d.owner;
  registers = d.registers;
  sessions = d.sessions;
  nv = d.counters;
}

-- What is present on the device is what is present at the history.
abbrev pub Stands : Origin → History → Device → Type 0
Stands o h d = holds d ≡ present o h
