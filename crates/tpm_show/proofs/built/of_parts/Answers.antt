use Rattle.std.proofs.Common.{refl, inl}
use Rattle.std.proofs.lemmas.Result.{IfOk-weaker}
use Rattle.tpm_show.specs.declared.built.Part.TheVariants.{Header}
use Rattle.tpm_show.specs.Build.{RefusedFor, in_part, too_long}
use Rattle.tpm_show.proofs.built.of_parts.Goals as goal

pub returns-in-None : goal.returns-in-None
returns-in-None c = IfOk-weaker c.refused.result _ _
    (λ b told. (RefusedFor too_long (in_part Header 2), inl (c.in-None.ensures, refl), told)) c.refused.ensures
