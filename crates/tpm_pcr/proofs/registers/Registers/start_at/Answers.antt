use Rattle.tpm_pcr.specs.Registers.Change.{StartAt}
use Rattle.tpm_pcr.specs.Answers.{locality_number}
use Rattle.tpm_pcr.proofs.Values.{start_is}
use Rattle.tpm_pcr.proofs.Stands.{stands}
use Rattle.tpm_pcr.proofs.registers.Registers.start_at.Goals as goal

pub returns : goal.returns
returns c = λ cs was.
    let number = locality_number c.args.locality in let old = c.self.inside.bytes in let new = c.fill_each.new.bytes in
    stands (StartAt number) cs c.args.self.now old new c.self.inside.updates c.self.inside.updates c.self.view_is was
    (start_is number old new (rw c.number.ensures at c.fill_each.ensures)) (λ n. n)
