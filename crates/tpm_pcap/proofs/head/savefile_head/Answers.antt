use Rattle.std.proofs.Common.{◌≡◌, ◌++◌, None, Option, Some, Ok, Err, ap, sym, ◌∙◌}
use Rattle.tpm_pcap.specs.declared.link.Link.{Link}
use Rattle.tpm_pcap.specs.Files.{savefile_over}
use Rattle.tpm_pcap.specs.Links.{link_of}
use Rattle.tpm_pcap.proofs.Heads.{savefile_behind}
use Rattle.tpm_pcap.proofs.head.savefile_head.Goals as goal

pub returns-in_default-clause-told : goal.returns-in_default-clause-told
returns-in_default-clause-told c = λ rest h.
    sym (savefile_behind c.args.port c.args.head.now rest (Err c.in_default.field-0) h (sym c.in_default.ensures.value))

pub returns-in_default-link_of-clause-told : goal.returns-in_default-link_of-clause-told
returns-in_default-link_of-clause-told c = λ rest h.
    let packets = c.in-Ok.packets.now in
    let none : link_of c.in-Ok.header.link ≡ None = sym c.link_of.ensures ∙ c.in_default-link_of.is in
    sym (savefile_behind c.args.port c.args.head.now rest (Ok (c.in-Ok.header, packets)) h (sym c.in-Ok.ensures.value)
    ∙ ap (λ (link : Option Link). savefile_over c.args.port c.in-Ok.header link (packets ++ rest)) none)

pub returns-clause-told : goal.returns-clause-told
returns-clause-told c = λ rest h.
    let packets = c.in-Ok.packets.now in
    let known : link_of c.in-Ok.header.link ≡ Some c.in-Some.link = sym c.link_of.ensures ∙ c.in-Some.is in
    rw (c.in_ok-file.ensures, c.on_link-section.ensures)
    (sym (savefile_behind c.args.port c.args.head.now rest (Ok (c.in-Ok.header, packets)) h (sym c.in-Ok.ensures.value)
    ∙ ap (λ (link : Option Link). savefile_over c.args.port c.in-Ok.header link (packets ++ rest)) known))
