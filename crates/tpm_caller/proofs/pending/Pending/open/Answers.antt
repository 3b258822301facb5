use Rattle.tpm_caller.proofs.Opening.{wrong_is}
use Rattle.tpm_caller.proofs.pending.Pending.open.Goals as goal

pub returns-in-FirstFault : goal.returns-in-FirstFault
returns-in-FirstFault c = wrong_is c.args.self c.args.bytes.now c.in-FirstFault.fault c.in-FirstFault.ensures
