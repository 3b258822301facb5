use Rattle.std.proofs.Common.{◌≡◌, ℕ, ◌≤◌, length}
use Rattle.tpm_pcap.specs.Options.{value_from, value_in}
use Rattle.tpm_pcap.proofs.options.value_in.Given as goal

-- The value among the options from here on is that among all.
abbrev pub invariant-loop-code : goal.invariant-loop-code
invariant-loop-code l = record {
  most : ℕ;
  fits : length l.rest ≤ most;
  value : value_from most l.order l.sought l.rest ≡ value_in l.order l.sought l.options;
}

abbrev pub decreases-loop-code : goal.decreases-loop-code
decreases-loop-code l = length l.rest
