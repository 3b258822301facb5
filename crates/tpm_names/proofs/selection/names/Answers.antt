use Rattle.std.proofs.Common.{rules, tests, lit<}
use Rattle.std.proofs.lemmas.Iterator.Search.{any_from_yields_List}
use Rattle.std.proofs.lemmas.Iterator.Splits.{YieldsList-from_str_split}
use Rattle.tpm_names.specs.Selections.{part_names}
use Rattle.tpm_names.proofs.selection.names.Goals as goal

pub returns : goal.returns
returns c = any_from_yields_List (part_names c.args.bank c.args.register) _ _ _ c.any.ensures.ran
    (YieldsList-from_str_split 43 c.args.text.now (lit< tt) c.split.ensures.text c.split.ensures.has_more c.split.ensures.pattern)
    (λ x b q k. search (rules, tests))
