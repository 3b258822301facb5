use Rattle.std.proofs.lemmas.Result.{IfOk-weaker}
use Rattle.tpm_output.proofs.LineReading.{feeds_end}
use Rattle.tpm_output.proofs.input_lines.LineReader.take.Goals as goal

pub returns-then-byte-eq10 : goal.returns-then-byte-eq10
returns-then-byte-eq10 g c =
    let S = g.S.LineSink in
    rw c.if-byte-eq10.true
    (IfOk-weaker c.end_line.result _ _
    (λ goes_on ended. (ended.0, ended.1, feeds_end S.limits S.takes S.is_at goes_on c.args.self.now c.end_line.new.self ended.0 ended.2)) c.end_line.ensures)
