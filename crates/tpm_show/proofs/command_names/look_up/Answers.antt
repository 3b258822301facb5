use Rattle.std.proofs.Common.{rules, ◌≡◌, ℕ, List, map, find, ◌==◌, option_map, Option, Bor}
use Rattle.std.proofs.lemmas.Iterator.Search.{find_from_yields_List}
use Rattle.std.proofs.lemmas.Iterator.{YieldsList-from_slice}
use Rattle.tpm_show.specs.declared.command_names.Listed.{Listed}
use Rattle.tpm_show.specs.CommandNames.{listed_in}
use Rattle.tpm_show.specs.inner.CommandNames.{listed_as}
use Rattle.tpm_output.proofs.Tables.{found_as}
use Rattle.tpm_show.proofs.command_names.look_up.Goals as goal

found : (table : List Listed) (n : ℕ) (o : Option (Bor Listed)) → option_map (λ c. c.now) o ≡ find (λ c. c.number == n) table
    → option_map (λ c. listed_as c.now) o ≡ listed_in (map listed_as table) n
unfolding listed_in
found table n o is = found_as listed_as (λ c. c.number == n) table o is

pub returns : goal.returns
returns c = found c.args.table.now c.args.number c.find.result
    (find_from_yields_List (λ m. m.number == c.args.number) _ _ _ c.find.ensures.ran
    (YieldsList-from_slice c.args.table.now c.iter.ensures.rest) (λ x b q k. search rules))
