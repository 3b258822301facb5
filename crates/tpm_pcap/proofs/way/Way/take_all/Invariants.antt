use Rattle.std.proofs.Common.{◌≡◌, ◌++◌, drop}
use Rattle.tpm_pcap.specs.Entries.{entries_as}
use Rattle.tpm_pcap.specs.Ways.{after_bytes}
use Rattle.tpm_pcap.specs.inner.Ways.{way_as}
use Rattle.tpm_pcap.proofs.way.Way.take_all.Given as goal

-- What the bytes from here on make of it is what all make of what was there.
abbrev pub invariant-loop-byte : goal.invariant-loop-byte
invariant-loop-byte l = record {
  way : (after_bytes l.to_tpm l.stamp (way_as l.self) (drop l.byte-index l.bytes)).0 ≡ (after_bytes l.to_tpm l.stamp (way_as l.fn.self) l.bytes).0;
  told : entries_as l.entries.items ++ (after_bytes l.to_tpm l.stamp (way_as l.self) (drop l.byte-index l.bytes)).1
      ≡ entries_as l.fn.entries.items ++ (after_bytes l.to_tpm l.stamp (way_as l.fn.self) l.bytes).1;
}
