use Rattle.std.proofs.Common.{◌+◌, ◌*◌, ◌/◌, sym, ◌∙◌, arith, length-drop, rules}
use Rattle.tpm_pcap.proofs.OptionsRead.{goes}
use Rattle.tpm_pcap.proofs.options.value_in.Goals as goal

pub loop-code-preserved : goal.loop-code-preserved
loop-code-preserved c =
    let f = c.loop-code.invariant in
    let value = c.in-Ok.value.now in
    let size = c.in-Ok.size in
    let g = goes f.most c.args.order c.args.sought c.loop-code.rest.now c.in-Ok.code size value (sym c.in-Ok.ensures.value)
    (search rules) (search rules) (omega (arith, c.in-Ok.ensures.size)) f.fits in
    record {
      most = g.fewer;
      fits = rw c.behind-rest.ensures (omega (arith, f.fits, g.most_is, c.in-Ok.ensures.size, length-drop ((size + 3) / 4 * 4) value));
      value = rw c.behind-rest.ensures (sym g.value ∙ f.value);
    }
