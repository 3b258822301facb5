use Rattle.std.proofs.Common.{rules, ◌≡◌, Some, option_map}
use Rattle.tpm_names.specs.declared.selection.RegisterList.{RegisterList}
use Rattle.tpm_names.specs.Selections.{IsRegisterList}
use Rattle.tpm_args.proofs.Found.{memory_or, no_list}
use Rattle.tpm_args.proofs.events.registers.Goals as goal

pub returns-in_ok-invalid_value-in-None : goal.returns-in_ok-invalid_value-in-None
returns-in_ok-invalid_value-in-None c =
    let given : option_map (λ t. t.now) c.args.text ≡ Some c.in-Some.text.now = search rules in
    let none : (list : RegisterList) → IsRegisterList c.in-Some.text.now list → ⊥ = search rules in
    memory_or c.in_ok-invalid_value-in-None.field-0 (λ _. no_list _ c.in-Some.text.now given none) c.in_ok-invalid_value-in-None.ensures
