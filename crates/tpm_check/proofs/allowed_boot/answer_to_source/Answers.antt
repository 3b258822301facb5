use Rattle.std.proofs.Common.{◌≡◌, ◌∙◌, Some, ap, string_bytes, subst, sym}
use Rattle.tpm_lists.specs.declared.allow_file.AllowFile.TheVariants.{Digests}
use Rattle.tpm_lists.specs.declared.allow_file.AllowFile.{AllowFile}
use Rattle.tpm_check.specs.AllowedBoot.{ChecksBeside}
use Rattle.tpm_check.proofs.allowed_boot.answer_to_source.Goals as goal

pub returns-in_ok-answer_to_found-in-Digests-clause-ok : goal.returns-in_ok-answer_to_found-in-Digests-clause-ok
returns-in_ok-answer_to_found-in-Digests-clause-ok g c =
    let quote = c.args.quote in
    let a = c.in_ok-answer_to_found-in-Digests.field-0 in
    let looked = c.in_ok-found-in-Digests.ensures.ok in
    let listed : Digests c.in_ok-list-in-Digests.list ≡ c.args.allow.now =
    ap Digests c.in_ok-list-in-Digests.ensures ∙ sym c.in-Digests.is in (
      looked.0,
      looked.1,
      subst (λ (allow : AllowFile).
          ChecksBeside quote.options.now (record { attest = quote.attest.now; allow = Some allow }) looked.0 a.status (string_bytes a.text)) listed
          (c.in_ok-answer_to_found-in-Digests.ensures looked.0 looked.2),
    )
