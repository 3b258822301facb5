use Rattle.std.proofs.Common.{◌≡◌, ◌++◌, flat_map, drop}
use Rattle.tpm_show.proofs.parts.CountedHasParts.tell_parts.Given as goal

-- the entries so far and those that are left are all
abbrev pub invariant-loop-entry : goal.invariant-loop-entry
invariant-loop-entry g l =
    let marks = g.T.Teller.marks in
    let one = g.E.Entry.told_entry in
    g.T.Teller.told l.teller ++ flat_map marks (flat_map one (drop l.entry-index l.entries))
    ≡ g.T.Teller.told l.initial.teller ++ flat_map marks (flat_map one l.entries)
