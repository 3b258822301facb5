use Rattle.std.proofs.Common.{◌≡◌, ℕ, ◌+◌, ◌-◌, take, drop, ap, ◌∙◌, arith}
use Rattle.tpm_types.specs.Alg.{digest_len}
use Rattle.tpm_pcr.specs.Banks.{value_at}
use Rattle.tpm_pcr.proofs.registers.value.Goals as goal

pub returns-clause-value : goal.returns-clause-value
unfolding value_at
returns-clause-value c =
    let at = c.offset-at.result in let bytes = c.args.bytes.now in
    let size : at + c.digest_len.result - at ≡ digest_len c.args.alg = omega (arith, c.digest_len.ensures.value) in
    ap (λ (n : ℕ). take n (drop at bytes)) size ∙ ap (λ (p : ℕ). take (digest_len c.args.alg) (drop p bytes)) c.offset-at.ensures.value
