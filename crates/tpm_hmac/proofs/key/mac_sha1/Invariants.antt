use Rattle.std.proofs.Common.{ℕ, List, ◌++◌, take}
use Rattle.std.specs.List.{flat_map}
use Rattle.sha1.specs.Sha1.{Holds}
use Rattle.tpm_hmac.proofs.key.mac_sha1.Given as goal

abbrev pub invariant-loop-part : goal.invariant-loop-part
invariant-loop-part l = (i : List ℕ) → Holds l.inner i → Holds l.hasher (i ++ flat_map (λ p. p.now) (take l.part-index l.parts))
