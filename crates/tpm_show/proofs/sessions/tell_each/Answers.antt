use Rattle.std.proofs.Common.{◌∙◌, sym, arith}
use Rattle.tpm_output.proofs.Listed.{is_within}
use Rattle.tpm_show.proofs.Pieces.{sessions_further}
use Rattle.tpm_show.proofs.sessions.tell_each.Goals.{in-Some+in_ok-tell_session, in_default}
use Rattle.tpm_show.proofs.sessions.tell_each.Goals as goal

pub loop-before-preserved : goal.loop-before-preserved
loop-before-preserved g c =
    let sessions = g.A.HasSessions.sessions c.args.areas.now in
    let i = c.loop-before.before in
    elim c.match-session.branch [
      | in-Some+in_ok-tell_session w ↦ rw w.teller-is (sessions_further g.T.Teller.marks sessions i w.in-Some.session _ _ _
          (sym c.session.ensures ∙ w.in-Some.is) w.in_ok-tell_session.ensures c.loop-before.invariant)
      | in_default w ↦ absurd (is_within sessions i (sym c.session.ensures ∙ w.in_default.is) (omega arith))
    ]
