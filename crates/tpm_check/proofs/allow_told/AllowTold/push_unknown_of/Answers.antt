use Rattle.std.proofs.Common.{◌≡◌, ◌++◌, ◌∙◌, List, ℕ, true, false, ap, append_assoc, flat_map, string_bytes, sym, take}
use Rattle.std.proofs.lemmas.List.{append-nil}
use Rattle.tpm_lists.specs.Extensions.{is_of}
use Rattle.tpm_check.specs.AllowTold.{unknown_if}
use Rattle.tpm_check.proofs.FirstOf.{flat_map_more}
use Rattle.tpm_check.proofs.allow_told.AllowTold.push_unknown_of.Goals as goal
use Rattle.tpm_check.proofs.allow_told.AllowTold.push_unknown_of.Goals.{then-is_of+in_ok-push_unknown, else-is_of}

pub loop-extension-preserved : goal.loop-extension-preserved
loop-extension-preserved c =
    let f = unknown_if c.args.self.now.form c.args.bank c.args.register in
    let xs = c.args.self.now.found.now in
    let i = c.loop-extension.extension-index in
    let x = c.extension-item.result in
    let first = string_bytes c.args.text.now in
    let before = string_bytes c.loop-extension.text in
    let one : string_bytes c.if-is_of.text ≡ before ++ f x =
    elim c.if-is_of.branch [
      | then-is_of+in_ok-push_unknown w ↦
          let is : is_of c.args.bank c.args.register x ≡ true = sym c.is_of.ensures ∙ w.if-is_of.true in
          rw is (ap string_bytes w.text-is ∙ w.in_ok-push_unknown.ensures)
      | else-is_of w ↦
          let is : is_of c.args.bank c.args.register x ≡ false = sym c.is_of.ensures ∙ w.if-is_of.false in
          rw is (ap string_bytes w.text-is ∙ sym (append-nil before))
    ] in
    one ∙ ap (λ (t : List ℕ). t ++ f x) c.loop-extension.invariant ∙ append_assoc first (flat_map f (take i xs)) (f x)
    ∙ ap (λ (t : List ℕ). first ++ t) (sym (flat_map_more f xs i x c.loop-extension-test.true c.extension-item.is))
