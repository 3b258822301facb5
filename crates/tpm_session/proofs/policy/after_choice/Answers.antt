use Rattle.std.proofs.Common.{◌≡◌, ℕ, List, ◌∷◌, ◌∙◌, ap, sym, length, take, Bor, arith, append_assoc}
use Rattle.std.proofs.lemmas.List.Folds.{flat_map-map}
use Rattle.std.proofs.lemmas.List.{take_all}
use Rattle.std.specs.Prelude.{flat_map}
use Rattle.tpm_types.specs.declared.command_code.CommandCode.TheVariants as codes
use Rattle.tpm_hmac.specs.Hashes.{digest}
use Rattle.tpm_pcr.specs.Registers.{zeros}
use Rattle.tpm_model.specs.Policies.{code_bytes}
use Rattle.tpm_session.proofs.policy.after_choice.Goals as goal

pub returns : goal.returns
returns c =
    let ds = c.args.digests.now in
    let alg = c.args.alg in
    let code = code_bytes codes.PolicyOr in
    let all : take c.loop-digest.digest-index ds ≡ ds =
    take_all c.loop-digest.digest-index ds (omega (arith, c.loop-digest-test.false, ap length c.as_slice-digest-items.ensures.value)) in
    c.hash.ensures.value ∙ ap (digest alg)
    (ap (flat_map (λ (p : Bor (List ℕ)). p.now)) c.as_slice-2.ensures.value
    ∙ sym (flat_map-map (λ (v : List ℕ). v) (λ (p : Bor (List ℕ)). p.now) c.loop-digest.parts.items)
    ∙ ap (flat_map (λ (v : List ℕ). v)) (c.loop-digest.invariant.parts ∙ ap (λ (l : List (List ℕ)). zeros alg ∷ code ∷ l) all)
    ∙ sym (append_assoc (zeros alg) code (flat_map (λ (v : List ℕ). v) ds)))
