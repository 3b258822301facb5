use Rattle.std.proofs.Common.{◌≡◌, length, arith, ap, ◌∙◌}
use Rattle.tpm_stream.proofs.Filled.{headed}
use Rattle.tpm_stream.proofs.reader.begin.Goals as goal

pub returns : goal.returns
returns c =
    let long : length c.as_mut_slice.result.now ≡ c.args.size = ap length c.as_mut_slice.ensures.value ∙ c.lengthen.ensures in
    headed _ c.as_mut_slice.result.now c.put_head.new.bytes c.args.head.now _ c.args.size c.put_head.ensures
    (omega (arith, c.fits-head)) long c.requires.0 c.lengthen.ensures
