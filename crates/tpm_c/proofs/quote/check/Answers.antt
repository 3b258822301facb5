use Rattle.std.proofs.Common.{Ok, Err}
use Rattle.tpm_c.proofs.quote.check.Goals as goal

pub returns-in-Ok : goal.returns-in-Ok
returns-in-Ok c = (Ok c.replay_into.new.registers, c.in-Ok.ensures, c.compare.ensures)

pub returns-in-Err : goal.returns-in-Err
returns-in-Err c = (Err c.in-Err.fault, c.in-Err.ensures, (c.tell.ensures.at, c.tell.ensures.number))
