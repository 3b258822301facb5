use Rattle.std.proofs.Common.{◌≡◌, ◌++◌, ◌-◌, filter, flat_map}
use Rattle.std.specs.List.{range_with_len}
use Rattle.tpm_types.specs.Tpms.{is_selected}
use Rattle.tpm_show.specs.Parts.{register_part}
use Rattle.tpm_show.proofs.parts.tell_registers.Given as goal

-- the registers so far and those that are left are all
abbrev pub invariant-loop-number : goal.invariant-loop-number
invariant-loop-number g l =
    let marks = g.T.Teller.marks in
    g.T.Teller.told l.teller
    ++ flat_map marks (flat_map register_part (filter (is_selected l.fn.selection.select) (range_with_len l.number (24 - l.number))))
    ≡ g.T.Teller.told l.initial.teller ++ flat_map marks (flat_map register_part (filter (is_selected l.fn.selection.select) (range_with_len 0 24)))
