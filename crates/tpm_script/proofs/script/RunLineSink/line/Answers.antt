use Rattle.std.proofs.lemmas.Result.{IfOk-weaker}
use Rattle.tpm_script.proofs.Scripts.{short, takes_buffered}
use Rattle.tpm_script.proofs.script.RunLineSink.line.Goals as goal

pub returns : goal.returns
returns c =
    IfOk-weaker c.perform.result _ _
    (λ goes_on done.
    (done.0, done.1, takes_buffered _ done.2, done.3, short goes_on c.args.number c.args.self.now c.perform.new.self c.args.line.now done.0 done.2))
    c.perform.ensures
