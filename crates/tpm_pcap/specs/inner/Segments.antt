-- Segments, as the code holds them.
use Rattle.std.specs.Prelude.{◌<◌, length}
use Rattle.tpm_pcap.specs.declared.segment.Carried.{Carried as RustCarried}
use Rattle.tpm_pcap.specs.declared.segment.Segment.{Segment as RustSegment}
use Rattle.tpm_pcap.specs.declared.segment.Carried.TheVariants as rust
use Rattle.tpm_pcap.specs.Segments.{Segment, Carried, Other, Lacking, Fragment, UnknownLink, OnPort}

abbrev pub segment_as : RustSegment → Segment
segment_as s = record {
  to_tpm = s.to_tpm;
  client = s.client.now;
  simulator = s.simulator.now;
  port = s.port;
  number = s.number;
  opens = s.opens;
  size = s.size;
  payload = s.payload.now;
}

abbrev pub carried_as : RustCarried → Carried
carried_as rust.Other = Other
carried_as rust.Lacking = Lacking
carried_as rust.Fragment = Fragment
carried_as rust.UnknownLink = UnknownLink
carried_as (rust.Segment s) = OnPort (segment_as s)

-- A packet of the internet has fewer than 2^16 bytes behind its header, and so many are captured of it.
abbrev pub IsSmall : Carried → Type 0
IsSmall Other = Unit {0}
IsSmall Lacking = Unit {0}
IsSmall Fragment = Unit {0}
IsSmall UnknownLink = Unit {0}
IsSmall (OnPort s) = (s.size < 65536) × (length s.payload < 65536)
