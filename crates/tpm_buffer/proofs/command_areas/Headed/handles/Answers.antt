use Rattle.std.proofs.Common.{rules, ◌≡◌, Err}
use Rattle.tpm_types.proofs.Short.{ok, err}
use Rattle.tpm_commands.specs.Handles.{handles}
use Rattle.tpm_buffer.specs.CommandAreas.{HandlesCut}
use Rattle.tpm_buffer.proofs.Fits.{fits_behind}
use Rattle.tpm_buffer.proofs.Within.{has_handles}
use Rattle.tpm_buffer.proofs.command_areas.Headed.handles.Goals as goal

pub invariant_of-result : goal.invariant_of-result
invariant_of-result c =
    fits_behind 0 (handles c.self.inside.header.code) _ _ _ c.self.invariant c.in_ok-handles.ensures.reads

pub returns-clause-decodes : goal.returns-clause-decodes
returns-clause-decodes c =
    let x : HandlesCut = record {
      header = c.self.inside.header;
      handles = c.in_ok-handles.handles.items;
      here = c.take_handles.new.cursor.here;
    } in
    has_handles c.args.self (ok x) (search rules)

pub returns-in_err-handles-clause-decodes : goal.returns-in_err-handles-clause-decodes
returns-in_err-handles-clause-decodes c =
    let is : c.from_residual.result ≡ Err c.in_err-handles.field-0.0 = search rules in
    rw is (has_handles c.args.self (err c.in_err-handles.field-0.0) (search rules))
