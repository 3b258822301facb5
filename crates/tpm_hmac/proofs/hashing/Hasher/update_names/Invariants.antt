use Rattle.std.proofs.Common.{ℕ, List, ◌++◌, take}
use Rattle.std.specs.List.{flat_map}
use Rattle.tpm_types.specs.declared.alg.Alg.{Alg}
use Rattle.tpm_hmac.specs.inner.Hashers.{Holding}
use Rattle.tpm_hmac.proofs.hashing.Hasher.update_names.Given as goal

abbrev pub invariant-loop-name : goal.invariant-loop-name
invariant-loop-name l = (a : Alg) (m : List ℕ) → Holding a l.fn.self m → Holding a l.self (m ++ flat_map (λ name. name) (take l.name-index l.names))
