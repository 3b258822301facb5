use Rattle.std.proofs.Common.{Err, ap}
use Rattle.tpm_output.specs.declared.fault.ToolFault.{ToolFault}
use Rattle.tpm_program.proofs.Checks.{at_reading}
use Rattle.tpm_program.proofs.files.list_at.Goals as goal

pub returns-clause-err : goal.returns-clause-err
returns-clause-err g c =
    let source = c.in_ok-source in
    at_reading (g.I.Inputs.offers c.args.inputs.now) c.args.path.now c.in-Err.fault c.of_reading.result
    (g.I.Source.Source.coming source.source, source.ensures.opened)
    (λ h. c.in-Err.ensures.short (ap (λ (e : ToolFault). Err e) h)) c.of_reading.ensures
