use Rattle.std.proofs.Common.{take}
use Rattle.std.specs.Io.KnownBytes.{Appends}
use Rattle.tpm_pcap.specs.Entries.{entries_as}
use Rattle.tpm_show.specs.inner.PacketsTold.{TellsMany}
use Rattle.tpm_show.proofs.packets.print_entries.Given as goal

-- those so far are told
abbrev pub invariant-loop-entry : goal.invariant-loop-entry
invariant-loop-entry g l = TellsMany (entries_as (take l.entry-index l.entries)) l.fn.capture l.capture
    (Appends (g.W.Write.contents l.fn.out) (g.W.Write.contents l.out))
