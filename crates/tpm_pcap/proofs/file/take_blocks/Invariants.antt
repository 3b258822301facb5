use Rattle.std.proofs.Common.{◌≡◌, ◌-◌, ◌++◌, List, length}
use Rattle.tpm_pcap.specs.Entries.{Entry, entries_as}
use Rattle.tpm_pcap.specs.inner.Files.{GoesOn, reader_as}
use Rattle.tpm_pcap.proofs.file.take_blocks.Given as goal

-- So many bytes are told.
abbrev pub invariant-loop-used : goal.invariant-loop-used
invariant-loop-used l = record {
  told : List Entry;
  added : entries_as l.entries.items ≡ entries_as l.fn.entries.items ++ told;
  goes : GoesOn (record {
    format = l.format;
    old = reader_as l.fn.reader;
    bytes = l.bytes;
    last = l.last;
    new = reader_as l.reader;
    told = told;
  }) l.used;
}

abbrev pub decreases-loop-used : goal.decreases-loop-used
decreases-loop-used l = length l.bytes - l.used
