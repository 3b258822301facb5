use Rattle.std.proofs.Common.{◌∙◌, sym, length, arith, ◌*◌, ◌+◌}
use Rattle.std.proofs.lemmas.Bool.Decides.{nat_tests}
use Rattle.tpm_pcr.specs.Banks.{value_at}
use Rattle.tpm_pcr.proofs.Choice.{below, chosen_more, chosen_same, chosen_full, bits_more, small_still, smaller_still}
use Rattle.tpm_pcr.proofs.Choice.{values_more, count_is}
use Rattle.tpm_pcr.proofs.registers.read_byte.Goals.{then-not-is_full+then-is_selected, else-not-is_full}
use Rattle.tpm_pcr.proofs.registers.read_byte.Goals.{else-not-is_full-via-then-not-is_full+else-is_selected}
use Rattle.tpm_pcr.proofs.registers.read_byte.Goals.{else-not-is_full-via-else-not-is_full}
use Rattle.tpm_pcr.proofs.registers.read_byte.Goals as goal

pub loop-bit-preserved : goal.loop-bit-preserved
loop-bit-preserved c =
    let byte = c.args.byte in
    let bit = c.loop-bit.bit in
    let n = length c.args.values.now in
    let select = c.args.selection.now.select in
    let done = below n select byte bit in
    let old = c.args.values.now in
    let value = value_at c.args.bytes.now c.args.selection.now.hash in
    let here = c.loop-bit.invariant in
    let count = count_is value old c.loop-bit.values done here.values in
    elim c.if-not-is_full.branch [
      | then-not-is_full+then-is_selected w ↦
          let more =
          chosen_more n select byte bit c.loop-bit-test.true
          (grind (arith, nat_tests, count, c.is_full.ensures.value, c.is_full.ensures.fits, w.if-not-is_full.true))
          (sym w.is_selected.ensures ∙ w.if-is_selected.true) in
          record {
            bits = rw (w.bits-is, more) (bits_more done byte bit c.loop-bit.bits c.loop-bit-test.true here.bits here.small);
            small = rw w.bits-is (small_still bit c.loop-bit.bits c.loop-bit-test.true here.small);
            values =
                rw (w.values-is, w.push.ensures, more)
                (values_more value old c.loop-bit.values done (8 * byte + bit) w.digest.result w.digest.ensures here.values);
          }
      | else-not-is_full w ↦ elim w.else-not-is_full.branch [
        | else-not-is_full-via-then-not-is_full+else-is_selected w' ↦
            let same = chosen_same n select byte bit c.loop-bit-test.true (sym w'.is_selected.ensures ∙ w'.if-is_selected.false) in
            record {
              bits = rw (w.bits-is, same) here.bits;
              small = rw w.bits-is (smaller_still bit c.loop-bit.bits c.loop-bit-test.true here.small);
              values = rw (w.values-is, same) here.values;
            }
        | else-not-is_full-via-else-not-is_full w' ↦
            let same =
            chosen_full n select byte bit c.loop-bit-test.true
            (grind (arith, nat_tests, count, c.is_full.ensures.value, c.is_full.ensures.fits, w'.if-not-is_full.false)) in
            record {
              bits = rw (w.bits-is, same) here.bits;
              small = rw w.bits-is (smaller_still bit c.loop-bit.bits c.loop-bit-test.true here.small);
              values = rw (w.values-is, same) here.values;
            }
      ]
    ]
