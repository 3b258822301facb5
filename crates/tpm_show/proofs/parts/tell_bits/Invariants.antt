use Rattle.std.proofs.Common.{◌≡◌, ◌++◌, flat_map, map, drop}
use Rattle.tpm_output.specs.Named.{row_as}
use Rattle.tpm_show.specs.Bits.{bits_set}
use Rattle.tpm_show.specs.Parts.{set_attribute}
use Rattle.tpm_show.proofs.parts.tell_bits.Given as goal

-- the bits so far and those that are left are all
abbrev pub invariant-loop-bit : goal.invariant-loop-bit
invariant-loop-bit g l =
    let marks = g.T.Teller.marks in
    g.T.Teller.told l.teller ++ flat_map marks (flat_map set_attribute (bits_set (map row_as (drop l.bit-index l.table)) l.fn.attrs))
    ≡ g.T.Teller.told l.initial.teller ++ flat_map marks (flat_map set_attribute (bits_set (map row_as l.table) l.fn.attrs))
