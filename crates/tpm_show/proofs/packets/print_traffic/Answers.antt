use Rattle.std.proofs.Common.{rules, ◌≡◌, ◌+◌, ◌<◌, ◌≤◌, ◌==◌, true, false, List, ℕ, [], ◌++◌, length, take, drop, refl, ap, sym, ◌∙◌, arith}
use Rattle.std.proofs.Common.{length-append, length-take-le}
use Rattle.std.proofs.lemmas.List.{length-map, take-append-le}
use Rattle.std.specs.Prelude.{◌&&◌}
use Rattle.std.specs.Io.KnownBytes.{Appends}
use Rattle.tpm_output.proofs.Joins.{joins_appends}
use Rattle.tpm_pcap.specs.Entries.{Entry, entries_as, entry_as}
use Rattle.tpm_pcap.specs.Files.{TakesPiece, left_told}
use Rattle.tpm_show.specs.inner.PacketsTold.{TellsMany}
use Rattle.tpm_show.proofs.EntriesTold.{ends_at, last_told, many_both, of_read, silent_both, so_far_more, so_far_none}
use Rattle.tpm_show.proofs.Streams.{appends_nothing}
use Rattle.tpm_show.proofs.packets.print_traffic.Goals.{then-silent, else-silent}
use Rattle.tpm_show.proofs.packets.print_traffic.Goals as goal
use Rattle.tpm_stream.proofs.Filled.{consumes_both, consumes_none}

pub loop-entries-init : goal.loop-entries-init
loop-entries-init g c =
    let out = g.W.Write.contents c.args.out.now in
    record {
      bytes = [];
      told = [];
      read = consumes_none (g.R.Source.coming c.args.input.now);
      count = omega arith;
      tells = so_far_none c.args.file c.args.capture.now (Appends out out) (appends_nothing out);
      silent = refl;
      none = c.new-entries.ensures.items;
      failures = refl;
    }

pub loop-entries-preserved : goal.loop-entries-preserved
loop-entries-preserved g c =
    let contents = g.W.Write.contents in
    let f = c.loop-entries.invariant in
    let room = c.read.new.room in
    let count = c.in_ok-count.count in
    let piece = take count room in
    let items = c.take.new.entries.items in
    let len : length room ≡ c.min-room.result = search rules in
    let fits : length room ≤ c.loop-entries.left = search rules in
    let more : c.in_ok-more.more ≡ true = search rules in
    let t = rw more at c.in_ok-more.ensures in
    let entries : entries_as items ≡ t.0 = rw f.none at t.1 in
    let many : TellsMany t.0 c.loop-entries.capture c.print_entries.new.capture
    (Appends (contents c.loop-entries.out) (contents c.print_entries.new.out)) =
    rw (c.as_slice.ensures.value, entries) at c.in_ok-print_entries.ensures.ok in
    let takes : TakesPiece (record { old = c.loop-entries.file; piece = piece; new = c.take.new.self; told = t.0 }) true =
    rw (take-append-le count room (drop c.min-room.result c.loop-entries.piece) c.in_ok-count.ensures.bound.0) at t.2 in
    let same : length items ≡ length t.0 = sym (length-map items entry_as) ∙ ap (λ (l : List Entry). length l) entries in
    let silent : c.if-silent.silent ≡ (c.loop-entries.silent && (length items == 0)) =
    elim c.if-silent.branch [ then-silent w ↦ search rules | else-silent w ↦ search rules ] in
    record {
      bytes = f.bytes ++ piece;
      told = f.told ++ t.0;
      read = consumes_both _ _ _ f.bytes piece f.read c.in_ok-count.ensures.bytes.0;
      count = omega (arith, f.count, length-append f.bytes piece, length-take-le count room c.in_ok-count.ensures.bound.0, c.in_ok-count.ensures.bound.0, fits);
      tells = so_far_more c.args.file c.loop-entries.file c.take.new.self f.bytes piece f.told t.0 c.args.capture.now c.loop-entries.capture
          c.print_entries.new.capture _ _ (Appends (contents c.args.out.now) (contents c.print_entries.new.out))
          (joins_appends (contents c.args.out.now) (contents c.loop-entries.out) (contents c.print_entries.new.out)) f.tells takes many;
      silent = silent ∙ ap (λ (n : ℕ). c.loop-entries.silent && (n == 0)) same ∙ silent_both c.loop-entries.silent f.told t.0 f.silent;
      none = c.clear.ensures.items;
      failures = c.in_ok-count.ensures.count ∙ f.failures;
    }

pub returns-then-not-more-clause-ok : goal.returns-then-not-more-clause-ok
returns-then-not-more-clause-ok g c =
    let contents = g.W.Write.contents in
    let coming = g.R.Source.coming in
    let f = c.loop-entries.invariant in
    let room = c.read.new.room in
    let count = c.in_ok-count.count in
    let piece = take count room in
    let items = c.take.new.entries.items in
    let read = c.in_ok-count.ensures.bytes in
    let len : length room ≡ c.min-room.result = search rules in
    let fits : length room ≤ c.loop-entries.left = search rules in
    let any : 0 < c.loop-entries.left → 0 < length room = search rules in
    let more : c.in_ok-more.more ≡ false = search rules in
    let t = rw more at c.in_ok-more.ensures in
    let entries : entries_as items ≡ t.0 = rw f.none at t.1 in
    let many : TellsMany t.0 c.loop-entries.capture c.print_entries.new.capture
    (Appends (contents c.loop-entries.out) (contents c.print_entries.new.out)) =
    rw (c.as_slice.ensures.value, entries) at c.in_ok-print_entries.ensures.ok in
    let takes : TakesPiece (record { old = c.loop-entries.file; piece = piece; new = c.take.new.self; told = t.0 }) false =
    rw (take-append-le count room (drop c.min-room.result c.loop-entries.piece) c.in_ok-count.ensures.bound.0) at t.2 in
    let same : length items ≡ length t.0 = sym (length-map items entry_as) ∙ ap (λ (l : List Entry). length l) entries in
    let silent : c.if-silent.silent ≡ (c.loop-entries.silent && (length items == 0)) =
    elim c.if-silent.branch [ then-silent w ↦ search rules | else-silent w ↦ search rules ] in
    let most : length f.bytes + length piece ≤ c.args.most =
    omega (arith, f.count, length-take-le count room c.in_ok-count.ensures.bound.0, c.in_ok-count.ensures.bound.0, fits) in
    let end = ends_at (coming c.read.new.self) room count c.loop-entries.left (length f.bytes) c.args.most c.in_ok-count.ensures.bound.0
    read.1 any f.count in (
      f.told ++ t.0,
      of_read (λ (bytes : List ℕ). left_told c.args.file bytes ≡ f.told ++ t.0)
          (coming c.args.input.now) (coming c.loop-entries.input) (coming c.read.new.self) c.args.most f.bytes piece
          (last_told c.args.file c.loop-entries.file c.take.new.self f.bytes piece f.told t.0 c.args.capture.now c.loop-entries.capture _ f.tells takes)
          f.read read.0 most end,
      many_both f.told t.0 c.args.capture.now c.loop-entries.capture c.print_entries.new.capture _ _ _
          (joins_appends (contents c.args.out.now) (contents c.loop-entries.out) (contents c.print_entries.new.out)) f.tells.tells many,
      silent ∙ ap (λ (n : ℕ). c.loop-entries.silent && (n == 0)) same ∙ silent_both c.loop-entries.silent f.told t.0 f.silent,
    )
