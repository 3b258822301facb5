use Rattle.std.proofs.Common.{rules}
use Rattle.std.proofs.lemmas.Iterator.Search.{find_from_yields_List}
use Rattle.std.proofs.lemmas.Iterator.{YieldsList-from_slice}
use Rattle.std.specs.Str.{str_eq_ignore_ascii_case}
use Rattle.tpm_output.proofs.Tables.{found_as}
use Rattle.tpm_check.specs.inner.Kinds.{as_row, row_named}
use Rattle.tpm_check.proofs.kinds.kind_named.Goals as goal

pub returns : goal.returns
unfolding row_named
returns c =
    found_as as_row (λ row. str_eq_ignore_ascii_case row.0 c.args.name.now) c.args.kinds.now c.find.result
    (find_from_yields_List (λ k. str_eq_ignore_ascii_case k.0.now c.args.name.now) _ _ _ c.find.ensures.ran
    (YieldsList-from_slice c.args.kinds.now c.iter.ensures.rest) (λ x b q k. search rules))
