use Rattle.std.proofs.lemmas.Result.{IfOk-weaker}
use Rattle.tpm_check.proofs.Comparisons.{answers, reads_too_much}
use Rattle.tpm_check.proofs.compared.compare_lines.Goals as goal

pub returns-clause-too_long : goal.returns-clause-too_long
returns-clause-too_long g c = λ is.
    let coming = g.F.Source.coming in
    reads_too_much c.args.found (coming c.args.list.now) (coming c.take_lines.new.input) (c.take_lines.ensures.too_long is)

pub returns-clause-ok : goal.returns-clause-ok
returns-clause-ok g c =
    let coming = g.F.Source.coming in
    let contents = g.W.Write.contents in
    IfOk-weaker c.take_lines.result _ _ (λ left read. answers c.args.found (coming c.args.list.now) (coming c.take_lines.new.input)
    (contents c.args.out.now) (contents c.take_lines.new.out) read.0 read.1 left read.2 read.3 read.4) c.take_lines.ensures.ok
