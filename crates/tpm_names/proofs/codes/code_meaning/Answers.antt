use Rattle.std.proofs.Common.{◌≡◌, ◌<◌, ℕ, cond, false, Option, eqb, ltb, refl, sym, ap, ◌∙◌}
use Rattle.std.proofs.lemmas.Bool.{ne_eqb, lt-ltb}
use Rattle.std.specs.Prelude.{bit_and}
use Rattle.tpm_names.specs.Meanings.{Meaning, meaning_in}
use Rattle.tpm_names.proofs.codes.code_meaning.Goals as goal

in_format_zero : (t : ℕ) (zero one : Option Meaning) → t ≡ 0 → cond (eqb t 0) zero one ≡ zero
in_format_zero t zero one e = rw e refl

in_format_one : (t n most : ℕ) (zero one other : Option Meaning) → (t ≡ 0 → ⊥) → n < most → cond (eqb t 0) zero (cond (ltb n most) one other) ≡ one
in_format_one t n most zero one other e lt = let f : eqb t 0 ≡ false = ne_eqb t 0 e in rw (f, lt-ltb n most lt) refl

pub returns-then-code-eq0 : goal.returns-then-code-eq0
returns-then-code-eq0 c = c.look_up.ensures ∙ ap (λ t. meaning_in t c.args.code) c.without_number.ensures
    ∙ sym (in_format_zero (bit_and c.args.code 128) _ _ c.if-code-eq0.true)

pub returns-then-code-lt4096 : goal.returns-then-code-lt4096
returns-then-code-lt4096 c = c.look_up-then-code-lt4096.ensures
    ∙ ap (λ t. meaning_in t (bit_and c.args.code 63)) c.with_number.ensures
    ∙ sym (in_format_one (bit_and c.args.code 128) c.args.code 4096 _ _ _ c.if-code-eq0.false c.if-code-lt4096.true)
