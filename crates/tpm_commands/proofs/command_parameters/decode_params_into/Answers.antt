use Rattle.std.proofs.lemmas.Result.{err_from_is_err_and}
use Rattle.tpm_commands.proofs.WholeParams.{all_few, all_read, all_spelled, refused, judged}
use Rattle.tpm_commands.proofs.command_parameters.decode_params_into.Goals as goal

pub returns-clause-reads : goal.returns-clause-reads
returns-clause-reads c =
    all_read c.args.code c.args.bytes.now c.of_whole-cursor.result c.read.new.self c.read.new.cursor.here
    c.end_of_whole.result c.of_whole-cursor.ensures c.in_ok-read.ensures.reads c.end_of_whole.ensures

pub returns-clause-spelled : goal.returns-clause-spelled
returns-clause-spelled c =
    all_spelled c.args.bytes.now _ c.of_whole-cursor.result c.read.new.cursor.here c.end_of_whole.result
    c.of_whole-cursor.ensures c.in_ok-read.ensures.spelled c.end_of_whole.ensures

pub returns-clause-few : goal.returns-clause-few
returns-clause-few c =
    all_few c.args.code c.args.bytes.now c.of_whole-cursor.result c.read.new.self c.read.new.cursor.here
    c.end_of_whole.result c.of_whole-cursor.ensures c.in_ok-read.ensures.reads c.end_of_whole.ensures

pub returns-clause-decodes : goal.returns-clause-decodes
returns-clause-decodes c = judged c.args.code c.args.bytes.now _ (returns-clause-reads c)

pub returns-in_err-read-clause-reads : goal.returns-in_err-read-clause-reads
returns-in_err-read-clause-reads c =
    let p = err_from_is_err_and c.from_residual.result c.from_residual.ensures.1 in
    rw (p.1, p.2)
    (refused c.args.code c.args.bytes.now c.of_whole-cursor.result c.in_err-read.field-0.0
    c.of_whole-cursor.ensures c.in_err-read.ensures.reads)

pub returns-in_err-read-clause-decodes : goal.returns-in_err-read-clause-decodes
returns-in_err-read-clause-decodes c =
    judged c.args.code c.args.bytes.now _ (returns-in_err-read-clause-reads c)
