use Rattle.tpm_lists.proofs.AllowFinding.{LeadsOn}
use Rattle.tpm_lists.proofs.allow_index.is_in_chain.Given as goal

-- the chain up to there
abbrev pub invariant-loop-end : goal.invariant-loop-end
invariant-loop-end l = LeadsOn l.digests l.sought.bank l.sought.register l.sought.digest.now l.end

abbrev pub decreases-loop-end : goal.decreases-loop-end
decreases-loop-end l = l.end
