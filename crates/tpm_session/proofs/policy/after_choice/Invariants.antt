use Rattle.std.specs.Prelude.{◌≡◌, ◌+◌, ◌∷◌, length, map, take}
use Rattle.tpm_types.specs.declared.command_code.CommandCode.TheVariants as codes
use Rattle.tpm_pcr.specs.Registers.{zeros}
use Rattle.tpm_model.specs.Policies.{code_bytes}
use Rattle.tpm_session.proofs.policy.after_choice.Given as goal

abbrev pub invariant-loop-digest : goal.invariant-loop-digest
invariant-loop-digest l = record {
  parts : map (λ p. p.now) l.parts.items ≡ zeros l.alg ∷ code_bytes codes.PolicyOr ∷ take l.digest-index l.digests;
  count : length l.parts.items ≡ 2 + l.digest-index;
}
