use Rattle.std.proofs.Common.{refl}
use Rattle.std.proofs.lemmas.Result.{IfOk-weaker}
use Rattle.tpm_show.specs.Build.{RefusedFor, Spelled}
use Rattle.tpm_show.proofs.built.of_buffer.Goals as goal

pub returns-in-Ok : goal.returns-in-Ok
returns-in-Ok c = IfOk-weaker c.spelled.result _ _
    (λ b told. (Spelled c.args.bytes.now, ((c.in-Ok.field-0, (c.in-Ok.ensures.ok _).0 refl), refl), told)) c.spelled.ensures

pub returns-in-Err : goal.returns-in-Err
returns-in-Err c = IfOk-weaker c.refused.result _ _
    (λ b told. (RefusedFor c.in-Err.refusal c.place_of.result, ((c.in-Err.ensures.err _).0 refl, c.place_of.ensures), told))
    c.refused.ensures
