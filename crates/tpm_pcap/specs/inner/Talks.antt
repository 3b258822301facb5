-- A connection, as the code holds it.
use Rattle.tpm_pcap.specs.declared.talk.Talk.{Talk as RustTalk}
use Rattle.tpm_pcap.specs.inner.Ways.{way_as}
use Rattle.tpm_pcap.specs.Talks.{Talk}

abbrev pub talk_as : RustTalk → Talk
talk_as t = record {
  client = t.client.items;
  simulator = t.simulator.items;
  port = t.port;
  to = way_as t.to;
  back = way_as t.back;
}
