-- Blocks, as the code holds them.
use Rattle.tpm_pcap.specs.declared.block.Block.{Block as RustBlock}
use Rattle.tpm_pcap.specs.declared.block.Framed.{Framed as RustFramed}
use Rattle.tpm_pcap.specs.declared.block.Packet.{Packet as RustPacket}
use Rattle.tpm_pcap.specs.declared.block.Block.TheVariants as rust
use Rattle.tpm_pcap.specs.Blocks.{Packet, Block, Section, Describes, Captured, Simple, Other, Framed}

abbrev pub packet_as : RustPacket → Packet
packet_as p = record { interface = p.interface; ticks = p.ticks; size = p.size; bytes = p.bytes.now }

abbrev pub block_as : RustBlock → Block
block_as (rust.Section order) = Section order
block_as (rust.Interface interface) = Describes interface
block_as (rust.Packet p) = Captured (packet_as p)
block_as (rust.Simple size bytes) = Simple size bytes.now
block_as rust.Other = Other

abbrev pub framed_as : RustFramed → Framed
framed_as r = record { block = block_as r.block; size = r.size }
