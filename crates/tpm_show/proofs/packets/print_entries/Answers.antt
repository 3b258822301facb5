use Rattle.std.proofs.Common.{◌≡◌, ◌+◌, ◌++◌, [], ◌∷◌, take, ap, sym, ◌∙◌}
use Rattle.std.proofs.lemmas.List.{map-append, take_more}
use Rattle.std.specs.Io.KnownBytes.{Appends}
use Rattle.tpm_pcap.specs.declared.entry.Entry.{Entry}
use Rattle.tpm_pcap.specs.Entries.{entry_as, entries_as}
use Rattle.tpm_output.proofs.Joins.{joins_appends}
use Rattle.tpm_show.proofs.EntriesTold.{many_both, many_one}
use Rattle.tpm_show.proofs.packets.print_entries.Goals as goal

pub loop-entry-preserved : goal.loop-entry-preserved
loop-entry-preserved g c =
    let contents = g.W.Write.contents in
    let i = c.loop-entry.entry-index in
    let entries = c.args.entries.now in
    let e = c.entry-item.result in
    let next : entries_as (take (i + 1) entries) ≡ entries_as (take i entries) ++ entry_as e ∷ [] = ap entries_as
    (take_more entries i e c.loop-entry-test.true ∙ ap (λ (x : Entry). take i entries ++ x ∷ []) (sym c.entry-item.is))
    ∙ map-append entry_as (take i entries) (e ∷ []) in
    rw next (many_both (entries_as (take i entries)) (entry_as e ∷ []) c.args.capture.now c.loop-entry.capture c.print_entry.new.capture _ _
    (Appends (contents c.args.out.now) (contents c.print_entry.new.out))
    (joins_appends (contents c.args.out.now) (contents c.loop-entry.out) (contents c.print_entry.new.out))
    c.loop-entry.invariant
    (many_one (entry_as e) c.loop-entry.capture c.print_entry.new.capture _ c.in_ok-print_entry.ensures.ok))
