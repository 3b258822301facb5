use Rattle.std.proofs.Common.{[]}
use Rattle.tpm_model.specs.Steps.{new_origin}
use Rattle.tpm_device.proofs.device.no_sessions.Goals as goal

pub returns : goal.returns
returns c = c.new.ensures.at_first (new_origin [] 0)
