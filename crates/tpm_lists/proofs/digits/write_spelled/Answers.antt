use Rattle.std.proofs.Common.{◌+◌, ◌*◌, arith}
use Rattle.hex.proofs.Pairs.{decode_start}
use Rattle.tpm_lists.proofs.Spelling.{all_written, one_more}
use Rattle.tpm_lists.proofs.digits.write_spelled.Goals as goal

pub loop-at-init : goal.loop-at-init
loop-at-init c = decode_start c.args.digits.now c.args.bytes.now

pub loop-at-preserved : goal.loop-at-preserved
loop-at-preserved c =
    let at = c.loop-at.at in
    one_more c.args.digits.now c.loop-at.bytes at (omega arith) c.loop-at.invariant c.requires.digits (omega arith) _ _
    (c.values_of-values.ensures (2 * at) (omega arith)) (c.values_of-values.ensures (2 * at + 1) (omega arith))

pub returns : goal.returns
returns c = all_written c.args.digits.now c.loop-at.bytes c.loop-at.at (omega arith) c.loop-at.invariant (omega arith)
