use Rattle.std.proofs.Common.{◌≡◌, ◌∷◌, ◌++◌, [], List, drop, ap, sym, subst, ◌∙◌}
use Rattle.tpm_wire.specs.Spelling.{spelling}
use Rattle.tpm_wire.specs.Buffers.{Place}
use Rattle.tpm_types.specs.declared.tpms.AuthReply.{AuthReply}
use Rattle.tpm_types.specs.Tpms.{auth_response}
use Rattle.tpm_buffer.specs.Responses.{reply_sessions}
use Rattle.tpm_buffer.proofs.ReadSessions.{text_of}
use Rattle.tpm_buffer.proofs.sessions.take_sessions.Goals as goal

pub returns-clause-spelled : goal.returns-clause-spelled
returns-clause-spelled c =
    let here = c.args.cursor.now.here in
    let a = c.in_ok-first.first in
    let all = c.take_further_sessions.new.auths.items in
    let others = drop 1 all in
    let after = c.take_further_sessions.new.cursor.here.rest in
    let alone = c.push.ensures.items ∙ ap (λ (xs : List AuthReply). xs ++ a ∷ []) c.requires in
    let list : all ≡ a ∷ others = c.in_ok-take_further_sessions.ensures.first ∙ ap (λ (xs : List AuthReply). xs ++ others) alone in
    let first : here.rest ≡ spelling auth_response a ++ c.take.new.cursor.here.rest =
    sym (ap (λ (p : Place). p.here.rest) c.number.ensures) ∙ c.in_ok-first.ensures.spelled in
    subst (λ (xs : List AuthReply). here.rest ≡ spelling reply_sessions xs ++ after) (sym list)
    (text_of a others _ _ after first c.in_ok-take_further_sessions.ensures.spelled)
