use Rattle.std.proofs.Common.{rules, tests, lit<}
use Rattle.std.proofs.lemmas.Iterator.Search.{any_from_yields_List}
use Rattle.std.proofs.lemmas.Iterator.Splits.{YieldsList-from_str_split}
use Rattle.tpm_names.specs.Selections.{range_names}
use Rattle.tpm_names.proofs.selection.name_register.Goals as goal

pub returns-else-eq : goal.returns-else-eq
returns-else-eq c =
    let any = any_from_yields_List (range_names c.args.register) _ _ c.any.result c.any.ensures.ran
    (YieldsList-from_str_split 44 c.args.text.now (lit< tt) c.split.ensures.text c.split.ensures.has_more c.split.ensures.pattern)
    (λ x b q k. search (rules, tests)) in
    search (rules, any)
