use Rattle.std.proofs.Common.{◌≡◌, ◌+◌, ◌%◌, ◌^◌, ◌<◌, length, ap, sym, ◌∙◌, ℕ, rules}
use Rattle.tpm_pcr.specs.Registers.Change.{Extend}
use Rattle.tpm_pcr.specs.Registers.{updates}
use Rattle.tpm_pcr.proofs.Stands.{stands, next_count, counts, counts_none}
use Rattle.tpm_pcr.proofs.registers.Registers.extend.Goals as goal

pub returns-then-not-is_empty-clause-extended : goal.returns-then-not-is_empty-clause-extended
returns-then-not-is_empty-clause-extended c = λ cs was.
    let q = c.args.register in let ds = c.args.digests.now in let old = c.self.inside.bytes in let new = c.extend.new.bytes in let n = c.self.inside.updates in
    let some : 0 < length ds = search rules in
    stands (Extend q ds) cs c.args.self.now old new n ((n + 1) % 4294967296) c.self.view_is was (rw c.number-number.ensures.value at c.extend.ensures)
    (λ is. next_count n (updates cs) is ∙ ap (λ (k : ℕ). k % 2 ^ 32) (sym (counts q ds (updates cs) some)))

pub returns-else-not-is_empty-clause-extended : goal.returns-else-not-is_empty-clause-extended
returns-else-not-is_empty-clause-extended c = λ cs was.
    let q = c.args.register in let ds = c.args.digests.now in let old = c.self.inside.bytes in let new = c.extend.new.bytes in let n = c.self.inside.updates in
    let none : length ds ≡ 0 = search rules in
    stands (Extend q ds) cs c.args.self.now old new n n c.self.view_is was (rw c.number-number.ensures.value at c.extend.ensures)
    (λ is. is ∙ ap (λ (k : ℕ). k % 2 ^ 32) (sym (counts_none q ds (updates cs) none)))
