use Rattle.std.proofs.Common.{Ok, Err}
use Rattle.tpm_c.proofs.attest.check_required.Goals as goal

pub returns-in-Ok : goal.returns-in-Ok
returns-in-Ok c = (Ok c.replay_into.new.registers, c.in-Ok.ensures, c.compare.ensures)

pub returns-in-Err : goal.returns-in-Err
returns-in-Err c = (Err c.in-Err.found, c.in-Err.ensures, (c.tell_log.ensures.at, c.tell_log.ensures.number))
