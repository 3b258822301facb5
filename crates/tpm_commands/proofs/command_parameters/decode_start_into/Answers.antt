use Rattle.std.proofs.lemmas.Result.{err_from_is_err_and}
use Rattle.tpm_types.specs.declared.command_code.CommandCode.TheVariants as codes
use Rattle.tpm_commands.specs.declared.command.Params.TheVariants as params
use Rattle.tpm_commands.proofs.WholeParams.{all_read, refused}
use Rattle.tpm_commands.proofs.command_parameters.decode_start_into.Goals as goal

pub returns : goal.returns
returns c =
    all_read codes.StartAuthSession c.args.bytes.now c.of_whole-cursor.result (params.StartAuthSession c.read.new.self) c.read.new.cursor.here
    c.end_of_whole.result c.of_whole-cursor.ensures c.in_ok-read.ensures.reads c.end_of_whole.ensures

pub returns-in_err-read : goal.returns-in_err-read
returns-in_err-read c =
    let p = err_from_is_err_and c.from_residual.result c.from_residual.ensures.1 in
    rw (p.1, p.2)
    (refused codes.StartAuthSession c.args.bytes.now c.of_whole-cursor.result c.in_err-read.field-0.0
    c.of_whole-cursor.ensures c.in_err-read.ensures.reads)
