use Rattle.std.proofs.Common.{rules, ◌≡◌, Err}
use Rattle.tpm_wire.proofs.Cuts.{cut_decodes}
use Rattle.tpm_types.proofs.Short.{ok, err}
use Rattle.tpm_buffer.specs.Commands.{header}
use Rattle.tpm_buffer.specs.CommandAreas.{HeaderCut, head_and_rest}
use Rattle.tpm_buffer.proofs.Fits.{fits_first, fits_behind}
use Rattle.tpm_buffer.proofs.command_areas.header.Goals as goal

pub invariant_of-result : goal.invariant_of-result
invariant_of-result c =
    fits_behind 0 header _ _ _ (fits_first c.args.bytes.now _ c.new-cursor.ensures (search rules)) c.in_ok-header.ensures.reads

pub returns-clause-decodes : goal.returns-clause-decodes
returns-clause-decodes c =
    let x : HeaderCut = record { header = c.in_ok-header.header; here = c.take_header.new.cursor.here } in
    cut_decodes header head_and_rest c.args.bytes.now (ok x) (search rules)

pub returns-in_err-header-clause-decodes : goal.returns-in_err-header-clause-decodes
returns-in_err-header-clause-decodes c =
    let is : c.from_residual.result ≡ Err c.in_err-header.field-0.0 = search rules in
    rw is (cut_decodes header head_and_rest c.args.bytes.now (err c.in_err-header.field-0.0) (search rules))

pub returns-then-bytes-gt4096-clause-decodes : goal.returns-then-bytes-gt4096-clause-decodes
returns-then-bytes-gt4096-clause-decodes c =
    cut_decodes header head_and_rest c.args.bytes.now (err c.long_fault.result) (search rules)
