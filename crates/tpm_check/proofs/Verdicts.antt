-- A log with all that it is compared with.
use Rattle.std.proofs.Common.{◌≡◌, ◌||◌, ◌∙◌, Bool, List, Option, ℕ, ◌++◌, Some, None, append_assoc, refl, sym, subst, is_some}
use Rattle.tpm_output.specs.declared.status.Status.TheVariants.{Done, Refused}
use Rattle.tpm_output.specs.declared.status.Status.{Status}
use Rattle.tpm_output.specs.Status.{both}
use Rattle.tpm_check.specs.Asked.{Asked}
use Rattle.tpm_check.specs.Compare.{Beside, compared, printed, refused}
use Rattle.tpm_check.specs.CheckJson.{ok_text}
use Rattle.tpm_check.specs.Checked.{ChecksSigned, ChecksToEnd, ChecksValues}
use Rattle.tpm_check.proofs.Checks.{by_none, by_some}

both_refused : (status : Status) → both status Refused ≡ Refused
both_refused Done = refl
both_refused Refused = refl

module _ (b : Beside) (a : Asked) (bytes : Option (List ℕ)) (first : Status) (text : List ℕ) (signed : ChecksSigned b a (printed first text)) where
  abbrev pub list : List ℕ
  list = (compared b bytes).text

  -- A line is wrong.
  pub all_ended : (status : Status) → None ≡ (compared b bytes).status → status ≡ Refused
      → ChecksToEnd b a bytes (printed status (text ++ (list ++ ok_text b.form Refused)))
  all_ended status none is = (
    printed first text,
    refused list,
    signed,
    by_none (compared b bytes).status _ _ (sym none) (refl, refl),
    (is ∙ sym (both_refused first), rw (both_refused first) (sym (append_assoc text list (ok_text b.form Refused)))),
  )

  pub all_compared : (others : Bool) (second third status : Status) (last : List ℕ) → others ≡ (is_some a.attest || is_some bytes)
      → Some second ≡ (compared b bytes).status → ChecksValues b a.options others (printed third last) → status ≡ both first (both second third)
      → ChecksToEnd b a bytes (printed status (text ++ (list ++ (last ++ ok_text b.form (both first (both second third))))))
  all_compared others second third status last same some values is =
      let beside : ChecksValues b a.options (is_some a.attest || is_some bytes) (printed third last) =
      subst (λ (others : Bool). ChecksValues b a.options others (printed third last)) same values in (
        printed first text,
        printed (both second third) (list ++ last),
        signed,
        by_some (compared b bytes).status second _ _ (sym some) (printed third last, beside, (refl, refl)),
        (is, simp append_assoc),
      )
