use Rattle.std.proofs.Common.{ℕ, List, sym, ap, ◌∙◌, rules}
use Rattle.tpm_commands.specs.declared.command.StartAuth.{StartAuth}
use Rattle.tpm_commands.specs.Handles.{second}
use Rattle.tpm_buffer.specs.Commands.{bind_in}
use Rattle.tpm_c.proofs.Starting.{no_areas, no_params, other_command, request_is}
use Rattle.tpm_c.proofs.caller.request_in.Goals as goal

pub returns-in_default : goal.returns-in_default
returns-in_default c = no_areas c.args.command.now c.in_default.field-0 ((c.areas.ensures.err c.in_default.field-0).0 c.in_default.is)

pub returns-then-ne : goal.returns-then-ne
returns-then-ne c =
    let x = c.in-Ok.areas in
    other_command c.args.command.now x ((c.areas.ensures.ok x).0 c.in-Ok.is) (λ same. let k : ⊥ = search rules in k)

pub returns-in-Ok-decode_start_into : goal.returns-in-Ok-decode_start_into
returns-in-Ok-decode_start_into c =
    let x = c.in-Ok.areas in
    let q : StartAuth = record { bind = c.bind_in.result; params = c.decode_start_into.new.start } in
    request_is c.args.command.now x c.params.result.now q ((c.areas.ensures.ok x).0 c.in-Ok.is)
    (search rules) c.params.ensures.value (sym c.in-Ok-decode_start_into.ensures)
    (c.bind_in.ensures ∙ ap bind_in c.second_handle.ensures
    ∙ ap (λ (hs : List ℕ). bind_in (second hs)) c.handles.ensures)

pub returns-in-Err : goal.returns-in-Err
returns-in-Err c =
    let x = c.in-Ok.areas in
    no_params c.args.command.now x c.params.result.now c.in-Err.field-0 ((c.areas.ensures.ok x).0 c.in-Ok.is)
    (search rules) c.params.ensures.value (sym c.in-Err.ensures)
