use Rattle.tpm_lists.specs.inner.AllowIndex.{AreChains}
use Rattle.tpm_lists.proofs.allow_index.chains_of.Given as goal

-- the digests so far
abbrev pub invariant-loop-allowed : goal.invariant-loop-allowed
invariant-loop-allowed l = AreChains l.digests l.allowed-index l.last.items l.before.items
