use Rattle.std.proofs.Common.{◌≡◌, ◌∙◌, ap, length, length-append, take, arith, ◌∷◌, []}
use Rattle.std.proofs.lemmas.List.{take_all}
use Rattle.tpm_pcr.specs.Registers.{values_read, value_in}
use Rattle.tpm_pcr.specs.Banks.{value_at}
use Rattle.tpm_pcr.proofs.Entries.{entries_next, values_same}
use Rattle.tpm_pcr.proofs.Stands.{held_at}
use Rattle.tpm_pcr.proofs.registers.Registers.select_into.Goals as goal

pub loop-selection-preserved : goal.loop-selection-preserved
loop-selection-preserved c =
    let step =
    entries_next (value_at c.self.inside.bytes) c.as_slice-selection-items.result.now c.args.selections.now c.loop-selection.selection-index _
    c.loop-selection.read c.loop-selection.values
    c.read_selected.new.values c.read_selected.result c.as_slice-selection-items.ensures.value c.loop-selection-test.true c.loop-selection.invariant.read
    c.loop-selection.invariant.values
    c.read_selected.ensures.selection c.read_selected.ensures.values in
    record {
      read = c.push.ensures ∙ step.0;
      count = omega (arith, ap length c.push.ensures, length-append c.loop-selection.read (c.read_selected.result ∷ []), c.loop-selection.invariant.count);
      values = step.1;
    }

pub returns-clause-values : goal.returns-clause-values
returns-clause-values c =
    let sels = c.args.selections.now in let bytes = c.self.inside.bytes in let held = c.args.self.now in
    let all : take c.loop-selection.selection-index sels ≡ sels =
    take_all c.loop-selection.selection-index sels (omega (arith, c.loop-selection-test.false, ap length c.as_slice-selection-items.ensures.value)) in
    c.loop-selection.invariant.values ∙ ap (values_read (value_at bytes)) all
    ∙ ap (take 8) (values_same (value_at bytes) (value_in held.banks) sels (held_at held bytes c.self.inside.updates c.self.view_is))
