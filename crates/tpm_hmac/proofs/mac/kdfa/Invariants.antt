use Rattle.std.proofs.Common.{◌≡◌, ◌+◌, ◌-◌, ◌*◌, ◌<◌, ◌≤◌, length, take, min}
use Rattle.tpm_types.specs.Alg.{digest_len}
use Rattle.tpm_hmac.specs.Hmac.{kdfa_blocks, kdfa_text}
use Rattle.tpm_hmac.proofs.mac.kdfa.Given as goal

abbrev pub invariant-loop-done : goal.invariant-loop-done
invariant-loop-done l = record {
  long : length l.out ≡ length l.fn.out;
  place : l.done ≡ min (l.counter * digest_len l.alg) (length l.fn.out);
  last : l.counter * digest_len l.alg < length l.fn.out + digest_len l.alg;
  counted : l.counter ≤ l.done;
  written : take l.done l.out ≡ take l.done (kdfa_blocks l.alg l.key (kdfa_text l.label l.context_u l.context_v (8 * length l.fn.out)) l.counter);
}

abbrev pub decreases-loop-done : goal.decreases-loop-done
decreases-loop-done l = length l.out - l.done
