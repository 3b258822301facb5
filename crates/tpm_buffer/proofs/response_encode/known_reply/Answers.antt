use Rattle.std.proofs.Common.{arith, sym, ◌∙◌}
use Rattle.std.proofs.lemmas.Bool.{eqb-true}
use Rattle.tpm_commands.specs.Replies.{parameters_of_reply}
use Rattle.tpm_buffer.proofs.Answered.{fits_behind}
use Rattle.tpm_buffer.proofs.response_encode.known_reply.Goals as goal

pub returns-then-not-is_empty : goal.returns-then-not-is_empty
returns-then-not-is_empty c =
    fits_behind (parameters_of_reply c.args.body.now) c.args.body.now c.args.auths.now c.params_len.ensures.spelled
    c.requires.params (λ _. c.known_sessions.ensures)

pub returns-else-not-is_empty : goal.returns-else-not-is_empty
returns-else-not-is_empty c =
    fits_behind (parameters_of_reply c.args.body.now) c.args.body.now c.args.auths.now c.params_len.ensures.spelled c.requires.params
    (λ some. absurd (omega (arith, some, eqb-true _ _ (sym c.is_empty.ensures ∙ c.if-not-is_empty.false))))
