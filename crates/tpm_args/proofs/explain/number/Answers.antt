use Rattle.std.proofs.Common.{ℕ, List, subst}
use Rattle.std.specs.Option.{MatchOption}
use Rattle.tpm_names.specs.Numbers.{IsHexadecimal}
use Rattle.tpm_args.proofs.explain.number.Goals as goal

pub returns : goal.returns
returns c = subst (λ (t : List ℕ). MatchOption c.hexadecimal.result ((n : ℕ) → IsHexadecimal t n → ⊥) (λ n. IsHexadecimal t n))
    c.digits.ensures c.hexadecimal.ensures
