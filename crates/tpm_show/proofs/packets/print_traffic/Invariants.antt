use Rattle.std.proofs.Common.{◌≡◌, ◌+◌, ◌==◌, List, [], length, ℕ}
use Rattle.std.specs.Io.KnownBytes.{Appends, Consumes}
use Rattle.tpm_pcap.specs.Entries.{Entry}
use Rattle.tpm_show.specs.inner.PacketsTold.{TellsSoFar}
use Rattle.tpm_show.proofs.packets.print_traffic.Given as goal

-- The bytes so far were taken, and what came of them was told.
abbrev pub invariant-loop-entries : goal.invariant-loop-entries
invariant-loop-entries g l = record {
  bytes : List ℕ;
  told : List Entry;
  read : Consumes (g.R.Source.coming l.fn.input) (g.R.Source.coming l.input) bytes;
  count : length bytes + l.left ≡ l.most;
  tells : TellsSoFar (record { first = l.fn.file; bytes = bytes; last = l.file; told = told }) l.fn.capture l.capture
      (Appends (g.W.Write.contents l.fn.out) (g.W.Write.contents l.out));
  silent : l.silent ≡ (length told == 0);
  none : l.entries.items ≡ [];
  failures : g.R.Source.failed l.input ≡ g.R.Source.failed l.fn.input;
}

abbrev pub decreases-loop-entries : goal.decreases-loop-entries
decreases-loop-entries g l = l.left
