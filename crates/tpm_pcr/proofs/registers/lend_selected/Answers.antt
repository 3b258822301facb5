use Rattle.std.proofs.Common.{ℕ, List, ◌∷◌, [], ◌++◌, ◌∙◌, ap, sym, map, filter, take, Bor, arith}
use Rattle.std.proofs.lemmas.List.{map-append}
use Rattle.tpm_types.specs.Tpms.{is_selected}
use Rattle.tpm_pcr.specs.Registers.{all_registers}
use Rattle.tpm_pcr.specs.Banks.{value_at}
use Rattle.tpm_pcr.proofs.Choice.{filter_more, filter_same, register_more, values_more}
use Rattle.tpm_pcr.proofs.registers.lend_selected.Goals.{then-is_selected, else-is_selected}
use Rattle.tpm_pcr.proofs.registers.lend_selected.Goals as goal

pub loop-register-preserved : goal.loop-register-preserved
loop-register-preserved c =
    let q = c.loop-register.register in
    let p = is_selected c.args.selection.now.select in
    let before = filter p (take q all_registers) in
    let value = value_at c.args.bytes.now c.args.selection.now.hash in
    let old = map (λ (p : Bor (List ℕ)). p.now) c.args.parts.now.items in
    let parts = c.loop-register.parts.items in
    let next = ap (filter p) (register_more q c.loop-register-test.true) in
    elim c.if-is_selected.branch [
      | then-is_selected w ↦ record {
        parts = rw (w.parts-is, w.push.ensures.items)
            (map-append (λ (p : Bor (List ℕ)). p.now) parts (w.value.result ∷ [])
            ∙ values_more value old (map (λ (p : Bor (List ℕ)). p.now) parts) before q w.value.result.now w.value.ensures.value c.loop-register.invariant.parts
            ∙ ap (λ (qs : List ℕ). old ++ map value qs)
            (sym (next ∙ filter_more p (take q all_registers) q (sym c.is_selected.ensures ∙ w.if-is_selected.true))));
        count = rw w.parts-is (omega (arith, w.push.ensures.len, c.loop-register.invariant.count));
      }
      | else-is_selected w ↦ record {
        parts = rw w.parts-is (c.loop-register.invariant.parts
            ∙ ap (λ (qs : List ℕ). old ++ map value qs)
            (sym (next ∙ filter_same p (take q all_registers) q (sym c.is_selected.ensures ∙ w.if-is_selected.false))));
        count = rw w.parts-is (omega (arith, c.loop-register.invariant.count));
      }
    ]
