use Rattle.std.proofs.Common.{◌≡◌, ◌++◌, flat_map, map, drop}
use Rattle.tpm_show.specs.inner.Pieces.{as_piece}
use Rattle.tpm_show.proofs.teller.tell_all.Given as goal

-- the pieces so far and those that are left are all
abbrev pub invariant-loop-piece : goal.invariant-loop-piece
invariant-loop-piece g l =
    let marks = g.T.Teller.marks in
    g.T.Teller.told l.teller ++ flat_map marks (map as_piece (drop l.piece-index l.pieces))
    ≡ g.T.Teller.told l.initial.teller ++ flat_map marks (map as_piece l.pieces)
