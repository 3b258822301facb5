use Rattle.std.specs.Prelude.{◌≡◌, ◌<◌, ◌^◌, ◌++◌, length, map, take}
use Rattle.tpm_pcr.specs.inner.Select.{registers_of, chosen, bits_of}
use Rattle.tpm_pcr.specs.Banks.{value_at}
use Rattle.tpm_pcr.proofs.registers.read_byte.Given as goal

abbrev pub invariant-loop-bit : goal.invariant-loop-bit
invariant-loop-bit l =
    let done = chosen (length l.fn.values) l.selection.select (take l.bit (registers_of l.byte)) in
    record {
      bits : l.bits ≡ bits_of done;
      small : l.bits < 2 ^ l.bit;
      values : l.values ≡ l.fn.values ++ map (value_at l.bytes l.selection.hash) done;
    }
