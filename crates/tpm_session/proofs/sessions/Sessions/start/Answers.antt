use Rattle.std.proofs.Common.{refl, ◌∙◌}
use Rattle.tpm_session.proofs.Slots.{started}
use Rattle.tpm_session.proofs.sessions.Sessions.start.Goals as goal

pub returns-clause-started : goal.returns-clause-started
returns-clause-started c = λ o h command reply same body auths answer at.
    started o h command reply c.args.nonce.now c.args.start.now
    (record { session = c.handle_for.result; nonce_tpm = c.first_of.result }) c.in-Some.slot c.started.result c.self.inside.slots _
    refl c.handle_for.ensures.in_slot (c.started.ensures o same) body auths answer (c.self.view_is ∙ at)
