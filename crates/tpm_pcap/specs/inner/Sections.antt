-- A section, as the code holds it.
use Rattle.tpm_pcap.specs.declared.section.Section.{Section as RustSection}
use Rattle.tpm_pcap.specs.Sections.{Section}

abbrev pub section_as : RustSection → Section
section_as s = record { order = s.order; interfaces = s.interfaces.items }
