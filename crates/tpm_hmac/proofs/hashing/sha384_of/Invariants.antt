use Rattle.std.proofs.Common.{take}
use Rattle.std.specs.List.{flat_map}
use Rattle.sha2.specs.Hashers.{Holds384}
use Rattle.tpm_hmac.proofs.hashing.sha384_of.Given as goal

abbrev pub invariant-loop-part : goal.invariant-loop-part
invariant-loop-part l = Holds384 l.hasher (flat_map (λ p. p.now) (take l.part-index l.parts))
