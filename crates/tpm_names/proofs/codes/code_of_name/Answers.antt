use Rattle.std.proofs.Common.{◌≡◌, List, Option, Some, None, option_map, refl, ap, ◌∙◌}
use Rattle.std.specs.Prelude.{ℕ, bit_or}
use Rattle.tpm_names.specs.declared.meaning.Meaning.{Meaning as RustMeaning}
use Rattle.tpm_names.specs.Codes.{format_one, format_zero, name_in, named_code}
use Rattle.tpm_names.specs.Meanings.{Meaning, meaning_as, meaning_named}
use Rattle.tpm_names.proofs.codes.code_of_name.Goals as goal

in_zero : (o : Option RustMeaning) (x : RustMeaning) (one : Option Meaning) → o ≡ Some x
    → Some x.number ≡ named_code (option_map meaning_as o) one
in_zero o x one is = rw is refl

in_one : (z o : Option RustMeaning) (x : RustMeaning) → z ≡ None → o ≡ Some x
    → Some (bit_or 0x80 x.number) ≡ named_code (option_map meaning_as z) (option_map meaning_as o)
in_one z o x none is = rw (none, is) refl

in_none : (z o : Option RustMeaning) → z ≡ None → o ≡ None
    → None ≡ named_code (option_map meaning_as z) (option_map meaning_as o)
in_none z o none is = rw (none, is) refl

named_in : {t table : List Meaning} {name n : List ℕ} → t ≡ table → name ≡ n
    → meaning_named t name ≡ meaning_named table n
named_in t n = rw (t, n) refl

pub returns-in-Some : goal.returns-in-Some
returns-in-Some c =
    let n = name_in c.args.name.now in
    let named : c.name_in-name.result.now ≡ n = c.name_in-name.ensures ∙ ap name_in c.as_bytes.ensures.value in
    in_zero c.look_up_name.result c.in-Some.meaning (meaning_named format_one n) c.in-Some.is
    ∙ ap (λ z. named_code z (meaning_named format_one n)) (c.look_up_name.ensures ∙ named_in c.without_number.ensures named)

pub returns-in-Some-look_up_name : goal.returns-in-Some-look_up_name
returns-in-Some-look_up_name c =
    let n = name_in c.args.name.now in
    let named : c.name_in-name.result.now ≡ n = c.name_in-name.ensures ∙ ap name_in c.as_bytes.ensures.value in
    let one = option_map meaning_as c.look_up_name-in-None.result in
    in_one c.look_up_name.result c.look_up_name-in-None.result c.in-Some-look_up_name.meaning c.in-None.is c.in-Some-look_up_name.is
    ∙ ap (λ z. named_code z one) (c.look_up_name.ensures ∙ named_in c.without_number.ensures named)
    ∙ ap (named_code (meaning_named format_zero n)) (c.look_up_name-in-None.ensures ∙ named_in c.with_number.ensures named)

pub returns-in-None-look_up_name : goal.returns-in-None-look_up_name
returns-in-None-look_up_name c =
    let n = name_in c.args.name.now in
    let named : c.name_in-name.result.now ≡ n = c.name_in-name.ensures ∙ ap name_in c.as_bytes.ensures.value in
    let one = option_map meaning_as c.look_up_name-in-None.result in
    in_none c.look_up_name.result c.look_up_name-in-None.result c.in-None.is c.in-None-look_up_name.is
    ∙ ap (λ z. named_code z one) (c.look_up_name.ensures ∙ named_in c.without_number.ensures named)
    ∙ ap (named_code (meaning_named format_zero n)) (c.look_up_name-in-None.ensures ∙ named_in c.with_number.ensures named)
