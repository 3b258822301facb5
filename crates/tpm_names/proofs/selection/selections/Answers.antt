use Rattle.std.proofs.Common.{◌≡◌, true, refl, rules, tests, lit<}
use Rattle.std.proofs.lemmas.Iterator.Search.{all_from_yields_List}
use Rattle.std.proofs.lemmas.Iterator.Splits.{YieldsList-from_str_split}
use Rattle.std.specs.List.{list_all}
use Rattle.tpm_names.specs.Selections.{is_part, parts}
use Rattle.tpm_names.proofs.selection.selections.Goals as goal

pub returns-then-not-all : goal.returns-then-not-all
returns-then-not-all c =
    let all = all_from_yields_List is_part _ _ c.all.result c.all.ensures.ran
    (YieldsList-from_str_split 43 c.args.text.now (lit< tt) c.split.ensures.text c.split.ensures.has_more c.split.ensures.pattern)
    (λ x b q k. search (rules, tests)) in
    λ selections s. search (rules, all, s.0, c.if-not-all.true)

pub returns : goal.returns
returns c =
    let all = all_from_yields_List is_part _ _ c.all.result c.all.ensures.ran
    (YieldsList-from_str_split 43 c.args.text.now (lit< tt) c.split.ensures.text c.split.ensures.has_more c.split.ensures.pattern)
    (λ x b q k. search (rules, tests)) in
    let passed : list_all is_part (parts 43 c.args.text.now) ≡ true = search (rules, all, c.if-not-all.false) in
    rw (c.push-3.ensures, c.push-2.ensures, c.push.ensures, c.default-selections.ensures) (
      passed,
      rw (c.selection.ensures.hash, c.selection-2.ensures.hash, c.selection-3.ensures.hash) refl,
      (
        rw c.selection.ensures.hash c.selection.ensures.select,
        (
          rw c.selection-2.ensures.hash c.selection-2.ensures.select,
          (rw c.selection-3.ensures.hash c.selection-3.ensures.select, tt),
        ),
      ),
    )
