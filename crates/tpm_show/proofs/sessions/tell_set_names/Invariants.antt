use Rattle.std.proofs.Common.{◌≡◌, ◌++◌, flat_map, map, drop}
use Rattle.tpm_output.specs.Named.{row_as}
use Rattle.tpm_show.specs.declared.piece.How.TheVariants.{Asked}
use Rattle.tpm_show.specs.Bits.{bits_set}
use Rattle.tpm_show.specs.Sessions.{names_from}
use Rattle.tpm_show.proofs.sessions.tell_set_names.Given as goal

-- the names so far and those of the bits that are left are those of all
abbrev pub invariant-loop-bit : goal.invariant-loop-bit
invariant-loop-bit g l =
    let marks = g.T.Teller.marks in
    g.T.Teller.told l.teller ++ flat_map marks (names_from l.how (bits_set (map row_as (drop l.bit-index l.table)) l.fn.attributes))
    ≡ g.T.Teller.told l.initial.teller ++ flat_map marks (names_from Asked (bits_set (map row_as l.table) l.fn.attributes))
