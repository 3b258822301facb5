use Rattle.std.proofs.Common.{◌≡◌, ◌<◌, ◌≤◌, true, false, [], length, sym, refl, ◌∙◌, arith, rules}
use Rattle.std.proofs.lemmas.List.{append-nil}
use Rattle.tpm_output.specs.declared.input_lines.LineReader.{LineReader}
use Rattle.tpm_output.proofs.LineReading.{feeds_long, holds_byte, keeps_blank, keeps_byte, keeps_over}
use Rattle.tpm_output.proofs.input_lines.LineReader.keep.Goals.{else-long_ends-via-then-long_ends+else-len-most_line-2}
use Rattle.tpm_output.proofs.input_lines.LineReader.keep.Goals.{else-long_ends-via-else-long_ends}
use Rattle.tpm_output.proofs.input_lines.LineReader.keep.Goals as goal

pub returns-then-not-counts : goal.returns-then-not-counts
returns-then-not-counts g c =
    let S = g.S.LineSink in
    let blank : S.limits.counts c.args.byte ≡ false = search rules in (
      [],
      sym (append-nil _),
      record {
        on = holds_byte S.limits S.takes c.args.self.now _ c.args.byte c.requires.other refl refl refl
            (keeps_blank S.limits S.takes c.args.self.now.line.items c.args.byte blank) (λ ends le. le);
        at = c.requires.at;
        number = omega arith;
      },
    )

pub returns-then-len-most_line : goal.returns-then-len-most_line
returns-then-len-most_line g c =
    let S = g.S.LineSink in
    let full : S.limits.most < length c.args.self.now.line.items = omega (arith, c.most_line.ensures.value) in (
      [],
      sym (append-nil _),
      record {
        on = holds_byte S.limits S.takes c.args.self.now _ c.args.byte c.requires.other refl refl refl
            (keeps_over S.limits S.takes c.args.self.now.line.items c.args.byte full) (λ ends le. le);
        at = c.requires.at;
        number = omega arith;
      },
    )

pub returns-then-len-most_line-2 : goal.returns-then-len-most_line-2
returns-then-len-most_line-2 g c =
    let S = g.S.LineSink in
    let items = c.args.self.now.line.items in
    let counts : S.limits.counts c.args.byte ≡ true = search rules in
    let ends : S.limits.long_ends ≡ true = sym c.long_ends.ensures ∙ c.if-long_ends.true in
    let short : length items ≤ S.limits.most = omega (arith, c.most_line.ensures.value) in
    let long : S.limits.most < length c.push.new.self.items = omega (arith, c.most_line-then-long_ends.ensures.value) in
    let mid : LineReader g.row.S.Denot = record { sink = c.args.self.now.sink; line = c.push.new.self; begun = true; number = c.args.self.now.number } in
    let ended = c.in_ok-end_line.ensures in (
      ended.0,
      ended.1,
      feeds_long S.limits S.takes S.is_at c.in_ok-end_line.field-0 c.args.self.now mid c.end_line.new.self c.args.byte ended.0
          ends c.requires.other refl refl
          (rw c.in_ok-push.ensures.items (keeps_byte S.limits S.takes items c.args.byte counts short)) long ended.2,
    )

pub returns : goal.returns
returns g c =
    let S = g.S.LineSink in
    let items = c.args.self.now.line.items in
    let counts : S.limits.counts c.args.byte ≡ true = search rules in
    let short : length items ≤ S.limits.most = omega (arith, c.most_line.ensures.value) in
    let fits : S.limits.long_ends ≡ true → length c.push.new.self.items ≤ S.limits.most = elim c.else-long_ends.branch [
      | else-long_ends-via-then-long_ends+else-len-most_line-2 w ↦ λ ends. omega (arith, w.most_line-then-long_ends.ensures.value)
      | else-long_ends-via-else-long_ends w ↦ λ ends. let z : ⊥ = cc (w.if-long_ends.false, c.long_ends.ensures, ends) in absurd z
    ] in (
      [],
      sym (append-nil _),
      record {
        on = holds_byte S.limits S.takes c.args.self.now _ c.args.byte c.requires.other refl refl refl
            (rw c.in_ok-push.ensures.items (keeps_byte S.limits S.takes items c.args.byte counts short)) (λ ends le. fits ends);
        at = c.requires.at;
        number = omega arith;
      },
    )
