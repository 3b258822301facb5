use Rattle.std.proofs.Common.{◌∙◌, length, sym, ap}
use Rattle.tpm_types.specs.declared.command_code.CommandCode.{CommandCode}
use Rattle.tpm_commands.specs.Handles.{handle_kinds}
use Rattle.tpm_buffer.specs.CommandAreas.{HasCut}
use Rattle.tpm_caller.proofs.PlainParts.{no_areas, no_params, has_params, not_needed, handles_lie, parts_fit, read_as}
use Rattle.tpm_caller.proofs.plain.Plain.read.Goals.{then-not-are_params-via-then-not-are_params}
use Rattle.tpm_caller.proofs.plain.Plain.read.Goals.{then-not-are_params-via-else-not-are_params+then-not-needs_authorization}
use Rattle.tpm_caller.proofs.plain.Plain.read.Goals as goal

pub returns-in_default-clause-parts : goal.returns-in_default-clause-parts
returns-in_default-clause-parts c = no_areas c.args.bytes.now c.in_default.field-0 ((c.areas.ensures.err c.in_default.field-0).0 c.in_default.is)

pub returns-then-not-are_params-clause-parts : goal.returns-then-not-are_params-clause-parts
returns-then-not-are_params-clause-parts c =
    let bytes = c.args.bytes.now in
    let x = c.in-Ok.areas in
    let has : HasCut bytes x = (c.areas.ensures.ok x).0 c.in-Ok.is in
    elim c.then-not-are_params.branch [
      | then-not-are_params-via-then-not-are_params w ↦
          let f = c.are_params.ensures.no w.if-not-are_params.true in
          no_params bytes x c.code-code.result c.params-params.result.now f.0 has c.code-code.ensures c.params-params.ensures.value f.1
      | then-not-are_params-via-else-not-are_params+then-not-needs_authorization w ↦
          let are = c.are_params.ensures.yes w.if-not-are_params.false in
          not_needed bytes x are.0 c.code-code.result
          (has_params bytes x c.code-code.result c.params-params.result.now are.0 has c.in-Ok.ensures.spelled
          c.code-code.ensures c.params-params.ensures.value are.1)
          c.code-code.ensures (sym w.needs_authorization.ensures ∙ w.if-not-needs_authorization.true)
    ]

pub handles_in-requires-clause-within : goal.handles_in-requires-clause-within
handles_in-requires-clause-within c =
    (handles_lie c.args.bytes.now c.in-Ok.areas c.handles.result
    (c.handles.ensures.value ∙ ap (λ (k : CommandCode). length (handle_kinds k)) c.code-code.ensures) c.in-Ok.ensures.spelled).within

pub returns-clause-parts : goal.returns-clause-parts
returns-clause-parts c =
    let bytes = c.args.bytes.now in
    let x = c.in-Ok.areas in
    let has : HasCut bytes x = (c.areas.ensures.ok x).0 c.in-Ok.is in
    let are = c.are_params.ensures.yes c.if-not-are_params.false in
    read_as bytes x are.0 c.code-code.result c.handles_in.result.now c.params-params.result.now c.handles.result
    (has_params bytes x c.code-code.result c.params-params.result.now are.0 has c.in-Ok.ensures.spelled c.code-code.ensures c.params-params.ensures.value are.1)
    (sym c.needs_authorization.ensures ∙ c.if-not-needs_authorization.false) c.code-code.ensures c.handles.ensures.value
    c.handles_in.ensures c.params-params.ensures.value

pub returns-clause-fit : goal.returns-clause-fit
returns-clause-fit c = λ body is.
    let bytes = c.args.bytes.now in
    let x = c.in-Ok.areas in
    let has : HasCut bytes x = (c.areas.ensures.ok x).0 c.in-Ok.is in
    let are = c.are_params.ensures.yes c.if-not-are_params.false in
    parts_fit bytes x are.0
    (has_params bytes x c.code-code.result c.params-params.result.now are.0 has c.in-Ok.ensures.spelled c.code-code.ensures c.params-params.ensures.value are.1)
    body is
