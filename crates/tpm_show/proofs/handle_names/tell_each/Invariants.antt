use Rattle.std.proofs.Common.{◌≡◌, ◌++◌, ◌+◌, flat_map, drop}
use Rattle.tpm_show.specs.HandleNames.{handles_from}
use Rattle.tpm_show.proofs.handle_names.tell_each.Given as goal

-- the handles so far and those that are left are all
abbrev pub invariant-loop-before : goal.invariant-loop-before
invariant-loop-before g l =
    let marks = g.T.Teller.marks in
    g.T.Teller.told l.teller ++ flat_map marks (handles_from (l.before + 1) (drop l.before l.handles))
    ≡ g.T.Teller.told l.initial.teller ++ flat_map marks (handles_from 1 l.handles)
