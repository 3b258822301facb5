use Rattle.std.proofs.Common.{sym, ◌∙◌}
use Rattle.std.proofs.lemmas.List.{length-map}
use Rattle.tpm_show.specs.Sessions.{of_reply}
use Rattle.tpm_show.proofs.sessions.ReplyAreasHasSessions.session_count.Goals as goal

pub returns : goal.returns
returns c = c.auth_count.ensures ∙ sym (length-map c.args.self.now.auths of_reply)
