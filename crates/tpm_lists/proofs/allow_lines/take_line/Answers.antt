use Rattle.std.proofs.Common.{List, ℕ, ap, ◌∙◌}
use Rattle.std.specs.Prelude.{if◌then◌else◌}
use Rattle.std.specs.List.{list_any}
use Rattle.tpm_lists.specs.AllowLines.{allow_line, allowing_in, begins_comment, is_blank, is_feed}
use Rattle.tpm_lists.specs.declared.allow_lines.AllowLine.TheVariants.{Nothing}
use Rattle.tpm_lists.proofs.AllowFronts.{none_before, none_in_first}
use Rattle.tpm_lists.proofs.allow_lines.take_line.Goals as goal

pub read_text-requires-clause-none : goal.read_text-requires-clause-none
read_text-requires-clause-none c =
    ap (list_any begins_comment) c.before-text.ensures ∙ none_before begins_comment c.cut_line.result.0.now

pub read_text-requires-clause-line : goal.read_text-requires-clause-line
read_text-requires-clause-line c =
    ap (list_any is_feed) c.before-text.ensures
    ∙ none_in_first is_feed _ c.cut_line.result.0.now (ap (list_any is_feed) c.cut_line.ensures.line ∙ none_before is_feed c.args.bytes.now)

pub returns-clause-said : goal.returns-clause-said
returns-clause-said c =
    c.read_text.ensures.said
    ∙ ap (λ (text : List ℕ). if is_blank text then Nothing else allowing_in text) c.before-text.ensures
    ∙ ap allow_line c.cut_line.ensures.line
