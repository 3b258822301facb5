use Rattle.std.proofs.Common.{◌+◌, ap}
use Rattle.tpm_pcap.specs.inner.Files.{reader_as}
use Rattle.tpm_pcap.specs.inner.Sections.{section_as}
use Rattle.tpm_pcap.specs.Files.{Reader}
use Rattle.tpm_pcap.specs.Talks.{Talk}
use Rattle.tpm_pcap.proofs.Few.{carried_few}
use Rattle.tpm_pcap.proofs.file.Reader.take_packet.Goals as goal

pub returns-clause-told : goal.returns-clause-told
returns-clause-told c =
    let old = c.args.self.now in
    let carried = c.carried_of-carried.ensures.carried in
    let with_talk : Talk → Reader = λ (t : Talk). record { port = old.port; section = section_as old.section; talk = t; packet = old.packet + 1 } in
    let told = rw (carried, c.time_of.ensures) at c.in_ok-take.ensures in
    (ap with_talk told.0, told.1)

pub returns-clause-few : goal.returns-clause-few
returns-clause-few c =
    let r = reader_as c.args.self.now in
    rw (← c.carried_of-carried.ensures.carried) (carried_few _ r.talk _ c.carried_of-carried.ensures.small)
