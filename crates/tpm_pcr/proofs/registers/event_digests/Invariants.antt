use Rattle.std.specs.Prelude.{◌≡◌, map, take}
use Rattle.tpm_types.specs.Alg.{all_algs}
use Rattle.tpm_hmac.specs.Hashes.{digest}
use Rattle.tpm_pcr.proofs.registers.event_digests.Given as goal

abbrev pub invariant-loop-alg : goal.invariant-loop-alg
invariant-loop-alg l = l.digests ≡ map (λ alg. (alg, digest alg l.event)) (take l.alg-index all_algs)
