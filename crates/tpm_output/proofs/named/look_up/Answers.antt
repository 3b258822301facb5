use Rattle.std.proofs.Common.{rules, ◌≡◌, ℕ, List, map, find, ◌==◌, option_map, Option, Some, None, Bor, ap, refl, ◌∙◌}
use Rattle.std.proofs.lemmas.Iterator.Search.{find_from_yields_List}
use Rattle.std.proofs.lemmas.Iterator.{YieldsList-from_slice}
use Rattle.tpm_output.specs.Named.{named_in, row_as}
use Rattle.tpm_output.proofs.Tables.{found_as}
use Rattle.tpm_output.proofs.named.look_up.Goals as goal

names : (o : Option (Bor (ℕ × Bor (List ℕ)))) → option_map (λ r. (row_as r.now).name) o ≡ option_map (λ m. m.name) (option_map (λ r. row_as r.now) o)
names None = refl
names (Some r) = refl

found : (table : List (ℕ × Bor (List ℕ))) (n : ℕ) (o : Option (Bor (ℕ × Bor (List ℕ))))
    → option_map (λ r. r.now) o ≡ find (λ r. r.0 == n) table → option_map (λ r. (row_as r.now).name) o ≡ named_in (map row_as table) n
unfolding named_in
found table n o is = names o ∙ ap (option_map (λ m. m.name)) (found_as row_as (λ m. m.number == n) table o is)

pub returns : goal.returns
returns c = c.name_in.ensures ∙ found c.args.table.now c.args.number c.find.result
    (find_from_yields_List (λ r. r.0 == c.args.number) _ _ _ c.find.ensures.ran
    (YieldsList-from_slice c.args.table.now c.iter.ensures.rest) (λ x b q k. search rules))
