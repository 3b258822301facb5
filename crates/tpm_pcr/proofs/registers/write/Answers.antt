use Rattle.std.proofs.Common.{◌≡◌, ◌+◌, ◌-◌, length, arith}
use Rattle.tpm_types.specs.Alg.{digest_len}
use Rattle.tpm_pcr.proofs.Places.{written}
use Rattle.tpm_pcr.proofs.registers.write.Goals as goal

pub returns : goal.returns
returns c =
    let at = c.offset-at.result in let value = c.args.value.now in
    let size : at + length value - at ≡ digest_len c.args.alg = omega (arith, c.requires.value) in
    rw (size, c.offset-at.ensures.value, c.copy_from_slice.ensures.after)
    (written c.args.alg c.args.register c.args.bytes.now value c.requires.bytes c.requires.register c.requires.value)
