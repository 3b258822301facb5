-- A section of a file: the order of its numbers, and its interfaces (IETF draft-ietf-opsawg-pcapng, "Physical File
-- Layout"). A file of libpcap is one section, of one interface.
use Rattle.std.specs.Prelude.{ℕ, ◌==◌, nat_lt, min, List, [], ◌∷◌, ◌++◌, length, take, Option, Some, None, slice_get}
use Rattle.std.specs.Prelude.{if◌then◌else◌}
use Rattle.tpm_pcap.specs.declared.block.Interface.{Interface}
use Rattle.tpm_pcap.specs.declared.block.Ticks.TheVariants.{Untold}
use Rattle.tpm_pcap.specs.declared.block.Ticks.{Ticks}
use Rattle.tpm_pcap.specs.declared.link.Link.{Link}
use Rattle.tpm_pcap.specs.declared.numbers.Order.{Order}
use Rattle.tpm_pcap.specs.Blocks.{Packet}
use Rattle.tpm_pcap.specs.Segments.{Carried, carried_by}
use Rattle.tpm_pcap.specs.Times.{time_of}

pub record Section : Type 0 where
  pub order : Order
  pub interfaces : List Interface

abbrev pub new_section : Order → Section
new_section order = record { order = order; interfaces = [] }

-- The first 64 interfaces of a section are known.
abbrev pub with_interface : Section → Interface → Section
with_interface s interface =
    if nat_lt (length s.interfaces) 64 then record s { interfaces = s.interfaces ++ interface ∷ [] } else s

-- ---- packets

abbrev pub link_of_interface : Option Interface → Option Link
link_of_interface None = None
link_of_interface (Some interface) = interface.link

-- how many bytes are captured of a packet of so many; a limit of 0 is none
abbrev pub captured_on : Option Interface → (size : ℕ) → ℕ
captured_on None size = size
captured_on (Some interface) size = if interface.limit == 0 then size else min interface.limit size

-- A Simple Packet Block's packet is on interface 0.
abbrev pub simple_packet : Section → (size : ℕ) → List ℕ → Packet
simple_packet s size bytes = record {
  interface = 0;
  ticks = Untold;
  size = size;
  bytes = take (captured_on (slice_get s.interfaces 0) size) bytes;
}

-- when a packet was captured, by the units of its interface
abbrev pub time_on : Option Interface → Ticks → Option ℕ
time_on None ticks = None
time_on (Some interface) ticks = time_of interface.per_second ticks

abbrev pub packet_time : Section → Packet → Option ℕ
packet_time s p = time_on (slice_get s.interfaces p.interface) p.ticks

-- what a packet carries, of a simulator on this port
abbrev pub carried_of : (port : ℕ) → Section → Packet → Carried
carried_of port s p =
    carried_by (link_of_interface (slice_get s.interfaces p.interface)) port (length p.bytes == p.size) p.bytes
