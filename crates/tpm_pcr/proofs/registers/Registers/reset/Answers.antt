use Rattle.std.proofs.Common.{◌+◌, ◌%◌}
use Rattle.tpm_pcr.specs.Registers.Change.{Reset}
use Rattle.tpm_pcr.specs.Registers.{updates}
use Rattle.tpm_pcr.proofs.Values.{reset_is}
use Rattle.tpm_pcr.proofs.Stands.{stands, next_count}
use Rattle.tpm_pcr.proofs.registers.Registers.reset.Goals as goal

pub returns-clause-reset : goal.returns-clause-reset
returns-clause-reset c = λ cs was.
    let q = c.args.register in let old = c.self.inside.bytes in let new = c.fill_each.new.bytes in let n = c.self.inside.updates in
    stands (Reset q) cs c.args.self.now old new n ((n + 1) % 4294967296) c.self.view_is was
    (reset_is q old new (rw c.number-number.ensures.value at c.fill_each.ensures)) (next_count n (updates cs))
