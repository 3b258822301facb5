use Rattle.std.proofs.Common.{◌≡◌, ◌∙◌, ap, false, length, sym, true}
use Rattle.std.proofs.lemmas.Bool.{eqb-true, eq-eqb}
use Rattle.tpm_lists.specs.ListLines.{bank_named, behind_word, first_word, register_named}
use Rattle.tpm_lists.specs.AllowLines.{begins_comment, is_feed}
use Rattle.tpm_lists.proofs.AllowFronts.{front_size, front_tells, none_in_first, without_digits}
use Rattle.tpm_lists.proofs.allow_lines.front_of.Goals as goal

pub returns-then-is_empty : goal.returns-then-is_empty
returns-then-is_empty c =
    let behind : c.cut-2.result.1.now ≡ behind_word (behind_word c.args.text.now) = c.cut-2.ensures.behind ∙ ap behind_word c.cut.ensures.behind in
    without_digits c.args.text.now (ap length (sym behind) ∙ eqb-true _ 0 (sym c.is_empty.ensures ∙ c.if-is_empty.true))

no : false ≡ true → ⊥
no is = cc is

pub returns-in-Some-Some : goal.returns-in-Some-Some
returns-in-Some-Some c =
    let text = c.args.text.now in
    let behind : c.cut-2.result.1.now ≡ behind_word (behind_word text) = c.cut-2.ensures.behind ∙ ap behind_word c.cut.ensures.behind in
    let one : bank_named (first_word text) ≡ _ = ap bank_named (sym c.cut.ensures.first) ∙ sym c.bank_named.ensures ∙ c.in-Some-Some.is-0 in
    let two : register_named (first_word (behind_word text)) ≡ _ =
    ap register_named (ap first_word (sym c.cut.ensures.behind) ∙ sym c.cut-2.ensures.first) ∙ sym c.register_named.ensures ∙ c.in-Some-Some.is-1 in
    let some = λ (none : length (behind_word (behind_word text)) ≡ 0).
    let z : false ≡ true = sym c.if-is_empty.false ∙ c.is_empty.ensures ∙ eq-eqb _ 0 (ap length behind ∙ none) in no z in
    rw behind (
      (
        λ after. front_tells text some _ _ after one two,
        none_in_first begins_comment _ text c.requires.none,
        none_in_first is_feed _ text c.requires.line,
      ),
      front_size text some,
    )
