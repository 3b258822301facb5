use Rattle.std.proofs.Common.{ℕ, List, ◌++◌, take}
use Rattle.std.specs.List.{flat_map}
use Rattle.tpm_types.specs.declared.alg.Alg.{Alg}
use Rattle.tpm_hmac.specs.inner.Hashers.{Holding}
use Rattle.tpm_hmac.proofs.hashing.Hasher.update_all.Given as goal

abbrev pub invariant-loop-part : goal.invariant-loop-part
invariant-loop-part l = (a : Alg) (m : List ℕ) → Holding a l.fn.self m → Holding a l.self (m ++ flat_map (λ p. p.now) (take l.part-index l.parts))
