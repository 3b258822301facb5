use Rattle.std.proofs.Common.{rules, ◌≡◌, ℕ, List, map, find, option_map, Option, Bor, ◌∙◌}
use Rattle.std.proofs.lemmas.Iterator.Search.{find_from_yields_List}
use Rattle.std.proofs.lemmas.Iterator.{YieldsList-from_slice}
use Rattle.tpm_names.specs.Meanings.{meaning_named, row_as, same_word}
use Rattle.tpm_output.proofs.Tables.{found_as}
use Rattle.tpm_names.proofs.meaning.look_up_name.Goals as goal

found : (table : List (ℕ × Bor (List ℕ) × Bor (List ℕ))) (name : List ℕ) (o : Option (Bor (ℕ × Bor (List ℕ) × Bor (List ℕ))))
    → option_map (λ r. r.now) o ≡ find (λ r. same_word r.1.now name) table → option_map (λ r. row_as r.now) o ≡ meaning_named (map row_as table) name
unfolding meaning_named
found table name o is = found_as row_as (λ m. same_word m.name name) table o is

pub returns : goal.returns
returns c = c.said.ensures ∙ found c.args.table.now c.args.name.now c.find.result
    (find_from_yields_List (λ r. same_word r.1.now c.args.name.now) _ _ _ c.find.ensures.ran
    (YieldsList-from_slice c.args.table.now c.iter.ensures.rest) (λ x b q k. search rules))
