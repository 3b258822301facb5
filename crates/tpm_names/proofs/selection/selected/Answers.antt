use Rattle.std.proofs.Common.{ℕ, Bool, ◌+◌, sym, ◌∙◌, arith}
use Rattle.tpm_names.specs.Selections.{names}
use Rattle.tpm_names.proofs.Bits.{below_set, below_clear, above_set}
use Rattle.tpm_names.proofs.selection.selected.Goals.{then-names, else-names}
use Rattle.tpm_names.proofs.selection.selected.Goals as goal

pub loop-bit-preserved : goal.loop-bit-preserved
loop-bit-preserved c =
    let n = c.loop-bit.bits in let bit = c.loop-bit.bit in let here = c.loop-bit.invariant in
    let named : ℕ → Bool = λ i. names c.args.text.now c.args.bank (c.args.first + i) in
    elim c.if-names.branch [
      | then-names w ↦ rw w.bits-is (record {
        below = below_set n bit named c.loop-bit-test.true here.below (sym c.names.ensures ∙ w.if-names.true);
        above = above_set n bit c.loop-bit-test.true here.above;
      })
      | else-names w ↦ rw w.bits-is (record {
        below = below_clear n bit named here.below (here.above bit (omega arith)) (sym c.names.ensures ∙ w.if-names.false);
        above = λ i least. here.above i (omega (arith, least));
      })
    ]
