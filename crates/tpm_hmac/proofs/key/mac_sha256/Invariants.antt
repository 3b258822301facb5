use Rattle.std.proofs.Common.{ℕ, List, ◌++◌, take}
use Rattle.std.specs.List.{flat_map}
use Rattle.sha2.specs.Hashers.{Holds256}
use Rattle.tpm_hmac.proofs.key.mac_sha256.Given as goal

abbrev pub invariant-loop-part : goal.invariant-loop-part
invariant-loop-part l = (i : List ℕ) → Holds256 l.inner i → Holds256 l.hasher (i ++ flat_map (λ p. p.now) (take l.part-index l.parts))
