use Rattle.std.proofs.Common.{◌≡◌, ◌∙◌, ◌-◌, List, Some, ℕ, ap, arith, drop, length, subst}
use Rattle.std.proofs.lemmas.Grind.{common_steps}
use Rattle.std.proofs.lemmas.List.{take_all}
use Rattle.tpm_lists.specs.ListLines.{first_word}
use Rattle.tpm_output.specs.Text.{bytes_in}
use Rattle.tpm_lists.specs.AllowLines.{allowing}
use Rattle.tpm_lists.specs.inner.AllowReading.{IsFrontOf}
use Rattle.tpm_lists.proofs.AllowFronts.{behind_front}
use Rattle.tpm_lists.proofs.allow_lines.read_words.Goals as goal

pub returns-in-Some : goal.returns-in-Some
returns-in-Some c =
    let front = c.in-Some.front in
    let text = c.args.text.now in
    let told : IsFrontOf text (Some front) = subst (IsFrontOf text) c.in-Some.is c.requires in
    let n = length front.text.now in
    let digits : c.before-digits.result.now ≡ first_word (drop n text) =
    c.before-digits.ensures ∙ ap first_word (take_all (length text - n) (drop n text) (grind (arith, common_steps))) in
    c.read_digest.ensures
    ∙ ap (λ (l : List ℕ). allowing front.bank front.register (bytes_in l)) digits
    ∙ behind_front front text told.0 told.1
