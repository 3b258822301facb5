use Rattle.std.proofs.Common.{◌≡◌, ◌++◌, ◌∷◌, [], List, Ok, Err, false, drop, ap, sym, ◌∙◌, append_assoc}
use Rattle.std.proofs.lemmas.List.{map-append}
use Rattle.tpm_pcap.specs.declared.entry.Entry.TheVariants as rust
use Rattle.tpm_pcap.specs.inner.Blocks.{framed_as}
use Rattle.tpm_pcap.specs.inner.Files.{Come, may_go_on, reader_as}
use Rattle.tpm_pcap.specs.Entries.{Entry, Untold, entries_as, entry_as}
use Rattle.tpm_pcap.specs.Files.{after_block, ended, next_in}
use Rattle.tpm_pcap.proofs.Pieces.{goes_more, stop_told}
use Rattle.tpm_pcap.proofs.file.take_blocks.Goals as goal

pub loop-used-preserved : goal.loop-used-preserved
loop-used-preserved c =
    let f = c.loop-used.invariant in
    let used = c.loop-used.used in
    let bytes = c.args.bytes.now in
    let reader = reader_as c.loop-used.reader in
    let block = framed_as c.in-Ok.next in
    let told = (after_block reader block.block).1 in
    let is : next_in c.args.format reader.section.order (drop used bytes) ≡ Ok block = sym (rw c.behind.ensures at c.in-Ok.ensures.value) in
    let come : Come = record { format = c.args.format; old = reader_as c.args.reader.now; bytes = bytes; last = c.args.last; new = reader; told = f.told } in
    record {
      told = f.told ++ told;
      added = c.in_ok-take-in-Ok.ensures.told.1 ∙ ap (λ (l : List Entry). l ++ told) f.added
          ∙ append_assoc (entries_as c.args.entries.now.items) f.told told;
      goes = rw c.in_ok-take-in-Ok.ensures.told.0 (goes_more come used block f.goes is c.in-Ok.ensures.size.0
          (rw c.behind.ensures at c.in-Ok.ensures.size.1) c.in_ok-take-in-Ok.ensures.few);
    }

pub returns-in-Err : goal.returns-in-Err
returns-in-Err c =
    let f = c.loop-used.invariant in
    let used = c.loop-used.used in
    let bytes = c.args.bytes.now in
    let reader = reader_as c.loop-used.reader in
    let reason = c.in-Err.reason in
    let items = c.loop-used.entries.items in
    let before = entries_as c.args.entries.now.items in
    let one : List Entry = Untold reader.packet reason ∷ [] in
    let is : next_in c.args.format reader.section.order (drop used bytes) ≡ Err reason = sym (rw c.behind.ensures at c.in-Err.ensures.value) in
    let stops : may_go_on c.args.last reason ≡ false = sym c.may_go_on.ensures ∙ c.if-may_go_on.false in
    let come : Come = record { format = c.args.format; old = reader_as c.args.reader.now; bytes = bytes; last = c.args.last; new = reader; told = f.told } in
    let pushed = ap entries_as c.in_ok-push-in-Err.ensures.items ∙ map-append entry_as items (rust.Untold reader.packet reason ∷ [])
    ∙ ap (λ (l : List Entry). l ++ one) f.added in (
      f.told ++ Untold reader.packet reason ∷ ended reader,
      c.in_ok-end-in-Err.ensures ∙ ap (λ (l : List Entry). l ++ ended reader) pushed ∙ append_assoc (before ++ f.told) one (ended reader)
          ∙ append_assoc before f.told (Untold reader.packet reason ∷ ended reader),
      stop_told come used reason f.goes c.loop-used-test.true is stops,
    )
