use Rattle.std.proofs.Common.{◌∙◌, arith, refl}
use Rattle.tpm_types.proofs.Algs.{bank_at}
use Rattle.tpm_pcr.specs.inner.Banks.{filled_but_last}
use Rattle.tpm_pcr.proofs.Values.{first_none, first_more, first_all}
use Rattle.tpm_pcr.proofs.registers.fill_each.Goals as goal

pub loop-alg-init : goal.loop-alg-init
loop-alg-init c = record { long = refl; holds = first_none c.args.register (filled_but_last c.args.byte c.args.last) c.args.bytes.now }

pub loop-alg-preserved : goal.loop-alg-preserved
loop-alg-preserved c =
    let i = c.loop-alg.alg-index in let is = c.loop-alg.invariant in
    record {
      long = c.fill.auto.bytes ∙ is.long;
      holds =
          first_more i c.args.register _ (filled_but_last c.args.byte c.args.last) c.args.bytes.now c.loop-alg.bytes c.fill.new.bytes
          (bank_at i _ c.loop-alg-test.true) is.holds c.fill.ensures;
    }

pub returns : goal.returns
returns c =
    first_all c.loop-alg.alg-index c.args.register (filled_but_last c.args.byte c.args.last) c.args.bytes.now c.loop-alg.bytes (omega arith)
    c.loop-alg.invariant.holds
