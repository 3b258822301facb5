use Rattle.std.proofs.Common.{ℕ, List, ◌∷◌, [], ◌++◌, ◌∙◌, ap, sym, length, map, append_assoc}
use Rattle.tpm_types.specs.declared.tpms.Selection.{Selection}
use Rattle.tpm_pcr.specs.inner.Select.{registers_of, chosen, bits_of}
use Rattle.tpm_pcr.specs.Banks.{value_at}
use Rattle.tpm_pcr.proofs.Choice.{count_is}
use Rattle.tpm_pcr.proofs.Entries.{chosen_is, select_of_first, map_three}
use Rattle.tpm_pcr.proofs.registers.read_selected.Goals as goal

pub returns-clause-selection : goal.returns-clause-selection
returns-clause-selection c =
    let s = c.args.selection.now in
    let value = value_at c.args.bytes.now s.hash in
    let old = c.args.values.now in
    let n = length old in
    let one = c.read_byte-first.new.values in
    let two = c.read_byte-second.new.values in
    let e1 = count_is value old one (chosen n s.select (registers_of 0)) c.read_byte-first.ensures.values in
    let e2 = count_is value one two (chosen (length one) s.select (registers_of 1)) c.read_byte-second.ensures.values in
    ap (λ (l : List ℕ). let r : Selection = record { hash = s.hash; select = l } in r)
    (ap (λ (x : ℕ). x ∷ c.read_byte-second.result ∷ c.read_byte-third.result ∷ []) c.read_byte-first.ensures.bits
    ∙ ap (λ (x : ℕ). bits_of (chosen n s.select (registers_of 0)) ∷ x ∷ c.read_byte-third.result ∷ []) c.read_byte-second.ensures.bits
    ∙ ap (λ (x : ℕ). bits_of (chosen n s.select (registers_of 0)) ∷ bits_of (chosen (length one) s.select (registers_of 1)) ∷ x ∷ [])
    c.read_byte-third.ensures.bits
    ∙ sym (select_of_first n s (length one) (length two) e1 e2))

pub returns-clause-values : goal.returns-clause-values
returns-clause-values c =
    let s = c.args.selection.now in
    let value = value_at c.args.bytes.now s.hash in
    let old = c.args.values.now in
    let n = length old in
    let one = c.read_byte-first.new.values in
    let two = c.read_byte-second.new.values in
    let x = chosen n s.select (registers_of 0) in
    let y = chosen (length one) s.select (registers_of 1) in
    let z = chosen (length two) s.select (registers_of 2) in
    let e1 = count_is value old one x c.read_byte-first.ensures.values in
    let e2 = count_is value one two y c.read_byte-second.ensures.values in
    c.read_byte-third.ensures.values
    ∙ ap (λ (l : List (List ℕ)). l ++ map value z)
    (c.read_byte-second.ensures.values ∙ ap (λ (l : List (List ℕ)). l ++ map value y) c.read_byte-first.ensures.values)
    ∙ append_assoc (old ++ map value x) (map value y) (map value z)
    ∙ append_assoc old (map value x) (map value y ++ map value z)
    ∙ ap (λ (l : List (List ℕ)). old ++ l) (sym (map_three value x y z) ∙ ap (map value) (sym (chosen_is n s (length one) (length two) e1 e2)))
