use Rattle.std.proofs.Common.{refl}
use Rattle.std.proofs.lemmas.Result.{IfOk-weaker}
use Rattle.tpm_output.specs.LineSinks.{some_if}
use Rattle.tpm_lists.specs.ListLines.{line_under}
use Rattle.tpm_check.specs.inner.Comparing.{line_text}
use Rattle.tpm_check.specs.inner.Told.{told}
use Rattle.tpm_check.proofs.Comparisons.{anywhere, short, takes_buffered}
use Rattle.tpm_check.proofs.compared.ComparingLineSink.line.Goals as goal

pub returns : goal.returns
returns c =
    let old = c.args.self.now in
    let line = c.args.line.now in
    let text = line_text (told old.found.now) c.args.number (line_under old.heading line) in
    IfOk-weaker c.compare_line.result _ _ (λ goes_on done. (
      text,
      done.1,
      takes_buffered (record { number = c.args.number; old = old; line = line; new = some_if goes_on c.compare_line.new.self; text = text }) (done.0, refl),
      anywhere goes_on,
      short goes_on old c.compare_line.new.self line done.0,
    )) c.compare_line.ensures
