-- What stands in a file of either format, one behind the other.
use Rattle.std.specs.Prelude.{ℕ, List, Result}
use Rattle.tpm_pcap.specs.declared.block.Interface.{Interface}
use Rattle.tpm_pcap.specs.declared.block.Ticks.{Ticks}
use Rattle.tpm_pcap.specs.declared.entry.Reason.{Reason}
use Rattle.tpm_pcap.specs.declared.numbers.Order.{Order}

-- a packet: the number of its interface in the section, from 0, its time, how many bytes it had, and those that were
-- captured
pub record Packet : Type 0 where
  pub interface : ℕ
  pub ticks : Ticks
  pub size : ℕ
  pub bytes : List ℕ

-- A section begins, whose numbers are in this order; the section has another interface; a packet; a packet of so many
-- bytes on the section's first interface, of which as many as were captured are the first of these; nothing of packets.
pub data Block : Type 0 where
  Section : Order → Block
  Describes : Interface → Block
  Captured : Packet → Block
  Simple : (size : ℕ) → List ℕ → Block
  Other : Block

-- a block, and how many bytes it has
pub record Framed : Type 0 where
  pub block : Block
  pub size : ℕ

-- a block, or why no more can be told
abbrev pub Read : Type 0
Read = Result Framed Reason
