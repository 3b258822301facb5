use Rattle.std.proofs.lemmas.Result.{IfOk-weaker}
use Rattle.tpm_output.proofs.LineReading.{ends_last}
use Rattle.tpm_output.proofs.input_lines.LineReader.end.Goals as goal

pub returns : goal.returns
returns g c =
    let S = g.S.LineSink in
    IfOk-weaker c.end_line.result _ _
    (λ goes_on ended.
    (ended.0, ended.1, ends_last S.limits S.takes S.is_at goes_on c.args.self.now c.end_line.new.self ended.0 c.if-not-self.false ended.2))
    c.end_line.ensures
