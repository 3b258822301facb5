use Rattle.tpm_names.specs.Selections.{names}
use Rattle.tpm_names.proofs.Bits.{in_bytes}
use Rattle.tpm_names.proofs.selection.selection.Goals as goal

pub returns-clause-select : goal.returns-clause-select
returns-clause-select c = in_bytes c.selected.result c.selected-2.result c.selected-3.result
    (names c.args.text.now c.args.bank) c.selected.ensures c.selected-2.ensures c.selected-3.ensures
