use Rattle.std.proofs.Common.{◌≡◌, ◌++◌, ℕ, List, true, false, [], length, take, drop, refl, sym, subst, ◌∙◌, arith, rules, inl, inr}
use Rattle.std.proofs.Common.{length-append, length-take-le}
use Rattle.std.proofs.lemmas.List.{append-nil, take-append-le}
use Rattle.std.specs.Io.KnownBytes.{Appends}
use Rattle.tpm_stream.proofs.Filled.{consumes_both, consumes_none}
use Rattle.tpm_output.specs.declared.input_lines.LineReader.{LineReader}
use Rattle.tpm_output.specs.LineSinks.{GoesOn}
use Rattle.tpm_output.proofs.Joins.{joins_appends}
use Rattle.tpm_output.proofs.LineReading.{begins, keeps_none, reads_none, reads_over, reads_piece, stops_whatever}
use Rattle.tpm_output.proofs.input_lines.take_lines.Goals as goal

pub loop-lines-init : goal.loop-lines-init
loop-lines-init g c =
    let S = g.S.LineSink in
    let added : Appends (g.W.Write.contents c.args.out.now) (g.W.Write.contents c.args.out.now) [] = search rules in
    let reader : LineReader g.row.S.Denot = record { sink = c.args.sink; line = c.new.result; begun = false; number = 1 } in
    let none : c.new.result.items ≡ [] = search rules in
    record {
      bytes = [];
      text = [];
      consumed = consumes_none (g.R.Source.coming c.args.input.now);
      count = refl;
      added = added;
      holds = begins S.limits S.takes c.args.sink reader refl none refl refl;
      at = c.requires.at;
      number = omega arith;
      bound = omega arith;
      failures = refl;
    }

pub returns-in_err-count-clause-answered : goal.returns-in_err-count-clause-answered
returns-in_err-count-clause-answered g c = λ _.
    let inv = c.loop-lines.invariant in (
      inv.bytes,
      inv.holds.goes,
      rw append-nil at (consumes_both _ _ _ inv.bytes [] inv.consumed (keeps_none _ _ c.in_err-count.ensures.bytes)),
      subst (λ (text : List ℕ). Appends (g.W.Write.contents c.args.out.now) (g.W.Write.contents c.loop-lines.out) text) (sym inv.holds.same) inv.added,
    )

pub returns-in_err-count-clause-further : goal.returns-in_err-count-clause-further
returns-in_err-count-clause-further g c = λ _.
    let S = g.S.LineSink in
    let inv = c.loop-lines.invariant in (
      _,
      reads_none c.args.most (GoesOn S.limits S.takes c.args.sink) _ _ _ c.loop-lines.read inv.bytes inv.holds.goes inv.consumed inv.count
          (keeps_none _ _ c.in_err-count.ensures.bytes) inv.bound,
    )

pub returns-then-read-most-clause-too_long : goal.returns-then-read-most-clause-too_long
returns-then-read-most-clause-too_long g c = λ _.
    let S = g.S.LineSink in
    let inv = c.loop-lines.invariant in
    reads_over c.args.most c.loop-lines.read c.room_behind-room.result c.in_ok-count.count c.loop-lines.piece c.read.new.room
    c.room_behind-room.ensures c.read.auto.room c.in_ok-count.ensures.bound.0 (GoesOn S.limits S.takes c.args.sink) _ _ _ inv.bytes
    inv.holds.goes inv.consumed inv.count c.in_ok-count.ensures.bytes.0 inv.bound c.if-read-most.true

pub returns-in_err-goes_on-clause-further : goal.returns-in_err-goes_on-clause-further
returns-in_err-goes_on-clause-further g c = λ _.
    let S = g.S.LineSink in
    let inv = c.loop-lines.invariant in
    let bytes = rw c.if-count-eq0.true at c.in_ok-count.ensures.bytes in (
      _,
      reads_none c.args.most (GoesOn S.limits S.takes c.args.sink) _ _ _ c.loop-lines.read inv.bytes inv.holds.goes inv.consumed inv.count
          bytes.0 inv.bound,
    )

pub returns-then-count-eq0-clause-further : goal.returns-then-count-eq0-clause-further
returns-then-count-eq0-clause-further g c = λ _.
    let S = g.S.LineSink in
    let inv = c.loop-lines.invariant in
    let bytes = rw c.if-count-eq0.true at c.in_ok-count.ensures.bytes in (
      _,
      reads_none c.args.most (GoesOn S.limits S.takes c.args.sink) _ _ _ c.loop-lines.read inv.bytes inv.holds.goes inv.consumed inv.count
          bytes.0 inv.bound,
    )

pub returns-then-count-eq0-clause-ok : goal.returns-then-count-eq0-clause-ok
returns-then-count-eq0-clause-ok g c =
    let S = g.S.LineSink in
    let inv = c.loop-lines.invariant in
    let bytes = rw c.if-count-eq0.true at c.in_ok-count.ensures.bytes in
    let len : length c.read.new.room ≡ c.room_behind-room.result = search rules in
    let ended = c.in_ok-goes_on.ensures.ok in (
      inv.bytes,
      inv.text ++ ended.0,
      reads_none c.args.most (GoesOn S.limits S.takes c.args.sink) _ _ _ c.loop-lines.read inv.bytes inv.holds.goes inv.consumed inv.count
          bytes.0 inv.bound,
      (rw c.left.ensures (ended.2 c.args.sink inv.bytes inv.text inv.holds), inl (bytes.1 refl (omega (arith, len)))),
      joins_appends _ _ _ inv.text ended.0 inv.added ended.1,
    )

pub returns-in_err-print-clause-further : goal.returns-in_err-print-clause-further
returns-in_err-print-clause-further g c = λ _.
    let S = g.S.LineSink in
    let inv = c.loop-lines.invariant in
    let count = c.in_ok-count.count in
    let room = c.read.new.room in (
      _,
      reads_piece c.args.most c.loop-lines.read c.room_behind-room.result count c.loop-lines.piece room
          c.room_behind-room.ensures c.read.auto.room c.in_ok-count.ensures.bound.0 (GoesOn S.limits S.takes c.args.sink) _ _ _ inv.bytes _
          inv.holds.goes inv.consumed inv.count c.in_ok-count.ensures.bytes.0 c.if-read-most.false refl,
    )

pub returns-then-not-branch-clause-further : goal.returns-then-not-branch-clause-further
returns-then-not-branch-clause-further g c = λ _.
    let S = g.S.LineSink in
    let inv = c.loop-lines.invariant in
    let count = c.in_ok-count.count in
    let room = c.read.new.room in (
      _,
      reads_piece c.args.most c.loop-lines.read c.room_behind-room.result count c.loop-lines.piece room
          c.room_behind-room.ensures c.read.auto.room c.in_ok-count.ensures.bound.0 (GoesOn S.limits S.takes c.args.sink) _ _ _ inv.bytes _
          inv.holds.goes inv.consumed inv.count c.in_ok-count.ensures.bytes.0 c.if-read-most.false refl,
    )

pub returns-then-not-branch-clause-ok : goal.returns-then-not-branch-clause-ok
returns-then-not-branch-clause-ok g c =
    let S = g.S.LineSink in
    let inv = c.loop-lines.invariant in
    let count = c.in_ok-count.count in
    let room = c.read.new.room in
    let is : c.in_ok-print.field-0 ≡ false = c.if-not-branch.true in
    let fed =
    rw (is, take-append-le count room (drop c.room_behind-room.result c.loop-lines.piece) c.in_ok-count.ensures.bound.0) at c.in_ok-print.ensures.ok in
    let all = inv.bytes ++ take count room in
    let over = fed.2 c.args.sink inv.bytes inv.text inv.holds in (
      all,
      inv.text ++ fed.0,
      reads_piece c.args.most c.loop-lines.read c.room_behind-room.result count c.loop-lines.piece room
          c.room_behind-room.ensures c.read.auto.room c.in_ok-count.ensures.bound.0 (GoesOn S.limits S.takes c.args.sink) _ _ _ inv.bytes all
          inv.holds.goes inv.consumed inv.count c.in_ok-count.ensures.bytes.0 c.if-read-most.false refl,
      (
        rw (over.text_is, ← append-nil all) (stops_whatever S.limits S.takes c.args.sink all over.at []),
        inr (record { none = refl; at = over.at; text = over.text_is }),
      ),
      joins_appends _ _ _ inv.text fed.0 inv.added fed.1,
    )

pub loop-lines-preserved : goal.loop-lines-preserved
loop-lines-preserved g c =
    let S = g.S.LineSink in
    let inv = c.loop-lines.invariant in
    let count = c.in_ok-count.count in
    let room = c.read.new.room in
    let is : c.in_ok-print.field-0 ≡ true = c.if-not-branch.false in
    let counted : length (take count room) ≡ count = length-take-le count room c.in_ok-count.ensures.bound.0 in
    let fed =
    rw (is, take-append-le count room (drop c.room_behind-room.result c.loop-lines.piece) c.in_ok-count.ensures.bound.0) at c.in_ok-print.ensures.ok in
    record {
      bytes = inv.bytes ++ take count room;
      text = inv.text ++ fed.0;
      consumed = consumes_both _ _ _ inv.bytes (take count room) inv.consumed c.in_ok-count.ensures.bytes.0;
      count = omega (arith, inv.count, counted, length-append inv.bytes (take count room));
      added = joins_appends _ _ _ inv.text fed.0 inv.added fed.1;
      holds = fed.2.on c.args.sink inv.bytes inv.text inv.holds;
      at = fed.2.at;
      number = omega (arith, fed.2.number, inv.number, counted);
      bound = c.if-read-most.false;
      failures = c.in_ok-count.ensures.count ∙ inv.failures;
    }
