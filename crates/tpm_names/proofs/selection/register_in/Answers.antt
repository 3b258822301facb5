use Rattle.std.proofs.Common.{◌≡◌, true, ap, refl, sym, ◌∙◌, arith, Some}
use Rattle.std.proofs.lemmas.Bool.Decides.{nat_tests}
use Rattle.std.specs.Str.Parse.{digits_value}
use Rattle.tpm_types.specs.Handles.{is_pcr}
use Rattle.tpm_names.proofs.Numerals.{tested, not_tested}
use Rattle.tpm_names.proofs.selection.register_in.Goals as goal

pub returns-in-Some : goal.returns-in-Some
returns-in-Some c =
    let text = c.args.text.now in
    let small : is_pcr c.in-Some.number ≡ true = grind (arith, nat_tests, c.if-number-from.true, c.from.ensures) in
    rw (sym (tested text c.in-Some.number is_pcr c.in-Some.ensures) ∙ small) (ap Some c.in-Some.ensures.1)

pub returns-in_default-2 : goal.returns-in_default-2
returns-in_default-2 c =
    let text = c.args.text.now in
    let none = not_tested text (is_pcr (digits_value 10 text)) (λ t. grind (arith, nat_tests, t)) c.in_default.ensures in
    rw (sym none) refl
