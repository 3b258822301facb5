use Rattle.std.proofs.Common.{rules, tests, lit<}
use Rattle.std.proofs.lemmas.Iterator.Search.{all_from_yields_List}
use Rattle.std.proofs.lemmas.Iterator.Splits.{YieldsList-from_str_split}
use Rattle.tpm_names.specs.Selections.{is_range}
use Rattle.tpm_names.proofs.selection.are_registers.Goals as goal

pub returns-else-eq : goal.returns-else-eq
returns-else-eq c =
    let all = all_from_yields_List is_range _ _ c.all.result c.all.ensures.ran
    (YieldsList-from_str_split 44 c.args.text.now (lit< tt) c.split.ensures.text c.split.ensures.has_more c.split.ensures.pattern)
    (λ x b q k. search (rules, tests)) in
    search (rules, all)
