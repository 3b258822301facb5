use Rattle.std.proofs.Common.{◌≡◌, ◌≤◌, length, take}
use Rattle.tpm_hmac.specs.Sessions.{trim as trim_of}
use Rattle.tpm_hmac.proofs.key.trim.Given as goal

abbrev pub invariant-loop-len : goal.invariant-loop-len
invariant-loop-len l = record { same : trim_of (take l.len l.bytes) ≡ trim_of l.bytes; within : l.len ≤ length l.bytes }

abbrev pub decreases-loop-len : goal.decreases-loop-len
decreases-loop-len l = l.len
