use Rattle.std.proofs.Common.{ap, length, sym, take, ◌∙◌}
use Rattle.std.proofs.lemmas.Slice.Eq.{bytes_eq-Decides}
use Rattle.tpm_lists.specs.inner.AllowReading.{ends_word}
use Rattle.tpm_lists.proofs.AllowFronts.{cut_behind, line_behind, lines_behind}
use Rattle.tpm_lists.proofs.allow_lines.take_behind.Goals as goal

pub returns-clause-line : goal.returns-clause-line
returns-clause-line c =
    let front = c.args.front.now in
    let bytes = c.args.bytes.now in
    let cut = c.in_ok-digits.ensures.cases in
    line_behind front bytes _ _ c.in_ok-allowed.allowed c.requires
    ((bytes_eq-Decides (take (length front.text.now) bytes) front.text.now).0 c.in_ok-from_digits.ensures.cases.0)
    (cut_behind _ _ bytes c.in_ok-from_digits.from_digits.now _ _ c.in_ok-from_digits.ensures.cases.1 cut.1 cut.2)
    c.in_ok-allowed.ensures
    (ap ends_word (sym c.cut_line.ensures.line) ∙ sym c.ends_word.ensures ∙ c.if-not-ends_word.false)

pub returns-clause-lines : goal.returns-clause-lines
returns-clause-lines c =
    let front = c.args.front.now in
    let bytes = c.args.bytes.now in
    let cut = c.in_ok-digits.ensures.cases in
    lines_behind front bytes _ _ c.in_ok-allowed.allowed c.requires
    ((bytes_eq-Decides (take (length front.text.now) bytes) front.text.now).0 c.in_ok-from_digits.ensures.cases.0)
    (cut_behind _ _ bytes c.in_ok-from_digits.from_digits.now _ _ c.in_ok-from_digits.ensures.cases.1 cut.1 cut.2)
    c.in_ok-allowed.ensures _ c.cut_line.ensures.lines
