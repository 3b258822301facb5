use Rattle.std.proofs.Common.{◌-◌, ◌∙◌, sym, arith}
use Rattle.tpm_hmac.proofs.Trimming.{trim-take_zero, trim-take_other, trim-nothing}
use Rattle.tpm_hmac.proofs.key.trim.Goals.{then-loop-len-test+else-bytes-len-eq0, else-loop-len-test}
use Rattle.tpm_hmac.proofs.key.trim.Goals as goal

pub loop-len-preserved : goal.loop-len-preserved
loop-len-preserved c = record {
  same = trim-take_zero c.args.bytes.now c.loop-len.len (c.loop-len.len - 1) (omega arith) (omega arith) c.if-bytes-len-eq0.true ∙ c.loop-len.invariant.same;
  within = omega arith;
}

pub returns-clause-value : goal.returns-clause-value
returns-clause-value c = elim c.loop-len-test.branch [
  | then-loop-len-test+else-bytes-len-eq0 w ↦
      sym (trim-take_other c.args.bytes.now c.loop-len.len (c.loop-len.len - 1) (omega arith) (omega arith) (omega arith)) ∙ c.loop-len.invariant.same
  | else-loop-len-test w ↦ sym (trim-nothing c.args.bytes.now c.loop-len.len (omega arith)) ∙ c.loop-len.invariant.same
]
