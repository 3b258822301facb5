use Rattle.std.proofs.Common.{List, ℕ, ap, ◌∙◌}
use Rattle.std.specs.List.{list_any}
use Rattle.tpm_types.specs.declared.alg.Alg.{Alg}
use Rattle.tpm_vouched.specs.declared.allowed.AllowedDigest.{AllowedDigest}
use Rattle.tpm_vouched.specs.Allowed.{names}
use Rattle.tpm_lists.specs.inner.AllowIndex.{is_place}
use Rattle.tpm_lists.proofs.allow_index.AllowIndex.names.Goals as goal

pub returns : goal.returns
returns c =
    c.has_place.ensures ∙ ap (λ (places : List (Alg × ℕ)). list_any (is_place c.args.bank c.args.register) places) c.as_slice.ensures.value
    ∙ c.self.invariant.0 c.args.bank c.args.register
    ∙ ap (λ (list : List AllowedDigest). names list c.args.bank c.args.register) c.self.view_is
