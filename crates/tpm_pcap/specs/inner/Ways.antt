-- A direction of a connection, as the code holds it.
use Rattle.tpm_pcap.specs.declared.way.Way.{Way as RustWay}
use Rattle.tpm_pcap.specs.Ways.{Way}

abbrev pub way_as : RustWay → Way
way_as w = record { next = w.next; held = w.held.items; lost = w.lost }
