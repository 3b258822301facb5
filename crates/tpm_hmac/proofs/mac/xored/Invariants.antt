use Rattle.std.proofs.Common.{◌≡◌, ◌++◌, map, bit_xor, take, drop}
use Rattle.tpm_hmac.proofs.mac.xored.Given as goal

abbrev pub invariant-loop-byte : goal.invariant-loop-byte
invariant-loop-byte l = l.byte-items ≡ map (λ b. bit_xor b l.with) (take l.byte-index l.block) ++ drop l.byte-index l.block
