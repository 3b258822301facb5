use Rattle.std.proofs.Common.{◌≡◌, ◌++◌, flat_map, map, drop}
use Rattle.tpm_show.specs.HandleNames.{handle_name}
use Rattle.tpm_show.proofs.handle_names.tell_names.Given as goal

-- those so far and those that are left are all
abbrev pub invariant-loop-handle : goal.invariant-loop-handle
invariant-loop-handle g l =
    let marks = g.T.Teller.marks in
    g.T.Teller.told l.teller ++ flat_map marks (map handle_name (drop l.handle-index l.handles))
    ≡ g.T.Teller.told l.initial.teller ++ flat_map marks (map handle_name l.handles)
