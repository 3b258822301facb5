use Rattle.std.proofs.Common.{◌≡◌, ℕ, List, ◌∙◌, ap, sym, length, take, Bor, arith}
use Rattle.std.proofs.lemmas.List.Folds.{flat_map-map}
use Rattle.std.proofs.lemmas.List.{take_all}
use Rattle.std.specs.Prelude.{flat_map}
use Rattle.tpm_hmac.specs.Hashes.{digest}
use Rattle.tpm_pcr.specs.Registers.{selected_values, value_in}
use Rattle.tpm_pcr.specs.Banks.{value_at}
use Rattle.tpm_pcr.proofs.Entries.{parts_next, values_same}
use Rattle.tpm_pcr.proofs.Stands.{held_at}
use Rattle.tpm_pcr.proofs.registers.Registers.composite.Goals as goal

pub loop-selection-preserved : goal.loop-selection-preserved
loop-selection-preserved c = record {
  parts =
      parts_next (value_at c.self.inside.bytes) c.as_slice-selection-items.result.now c.args.selections.now c.loop-selection.selection-index _ _ _
      c.as_slice-selection-items.ensures.value c.loop-selection-test.true
      c.loop-selection.invariant.parts c.lend_selected.ensures.parts;
  count = omega (arith, c.lend_selected.ensures.count, c.loop-selection.invariant.count);
}

pub returns : goal.returns
returns c =
    let sels = c.args.selections.now in let bytes = c.self.inside.bytes in let held = c.args.self.now in
    let all : take c.loop-selection.selection-index sels ≡ sels =
    take_all c.loop-selection.selection-index sels (omega (arith, c.loop-selection-test.false, ap length c.as_slice-selection-items.ensures.value)) in
    c.hash.ensures.value ∙ ap (digest c.args.alg)
    (ap (flat_map (λ (p : Bor (List ℕ)). p.now)) c.as_slice.ensures.value
    ∙ sym (flat_map-map (λ (v : List ℕ). v) (λ (p : Bor (List ℕ)). p.now) c.loop-selection.parts.items)
    ∙ ap (flat_map (λ (v : List ℕ). v)) (c.loop-selection.invariant.parts ∙ ap (selected_values (value_at bytes)) all
    ∙ values_same (value_at bytes) (value_in held.banks) sels (held_at held bytes c.self.inside.updates c.self.view_is)))
