use Rattle.std.proofs.Common.{◌≡◌, ◌<◌, ◌+◌, ◌-◌, ◌++◌, ◌∷◌, ℕ, suc, List, filter, flat_map, sym, ap, ◌∙◌, arith}
use Rattle.std.specs.List.{range_with_len}
use Rattle.tpm_types.specs.Tpms.{is_selected}
use Rattle.tpm_show.specs.Parts.{register_part}
use Rattle.tpm_show.proofs.Pieces.{passing_further, passing_over}
use Rattle.tpm_show.proofs.parts.tell_registers.Goals.{then-is_selected+in_ok-tell_number, else-is_selected}
use Rattle.tpm_show.proofs.parts.tell_registers.Goals as goal

range_next : (n : ℕ) → n < 24 → range_with_len n (24 - n) ≡ n ∷ range_with_len (n + 1) (24 - (n + 1))
range_next n lt =
    let e : 24 - n ≡ suc (24 - (n + 1)) = omega (arith, lt) in
    ap (range_with_len n) e

pub loop-number-preserved : goal.loop-number-preserved
loop-number-preserved g c =
    let n = c.loop-number.number in
    let marks = g.T.Teller.marks in
    let passes = is_selected c.args.selection.now.select in
    let left = range_with_len (n + 1) (24 - (n + 1)) in
    let so_far = ap (λ (rs : List ℕ). g.T.Teller.told c.loop-number.teller ++ flat_map marks (flat_map register_part (filter passes rs)))
    (sym (range_next n c.loop-number-test.true)) ∙ c.loop-number.invariant in
    let known = ap passes (sym c.register.ensures) ∙ sym c.is_selected.ensures in
    elim c.if-is_selected.branch [
      | then-is_selected+in_ok-tell_number w ↦ rw w.teller-is
          (passing_further marks register_part passes n left _ _ _ (known ∙ w.if-is_selected.true) w.in_ok-tell_number.ensures so_far)
      | else-is_selected w ↦ rw w.teller-is (passing_over marks register_part passes n left _ _ (known ∙ w.if-is_selected.false) so_far)
    ]
