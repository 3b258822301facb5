use Rattle.std.proofs.Common.{take}
use Rattle.tpm_lists.specs.inner.AllowIndex.{ArePlaces}
use Rattle.tpm_lists.proofs.allow_index.places_of.Given as goal

-- the digests so far
abbrev pub invariant-loop-allowed : goal.invariant-loop-allowed
invariant-loop-allowed l = ArePlaces (take l.allowed-index l.digests) l.places.items
