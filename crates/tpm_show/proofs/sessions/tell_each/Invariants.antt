use Rattle.std.proofs.Common.{◌≡◌, ◌++◌, ◌+◌, flat_map, drop}
use Rattle.tpm_show.specs.Sessions.{sessions_from}
use Rattle.tpm_show.proofs.sessions.tell_each.Given as goal

-- the sessions so far and those that are left are all
abbrev pub invariant-loop-before : goal.invariant-loop-before
invariant-loop-before g l =
    let marks = g.T.Teller.marks in
    let sessions = g.A.HasSessions.sessions l.fn.areas in
    g.T.Teller.told l.teller ++ flat_map marks (sessions_from (l.before + 1) (drop l.before sessions))
    ≡ g.T.Teller.told l.initial.teller ++ flat_map marks (sessions_from 1 sessions)
