use Rattle.std.proofs.Common.{◌≡◌, ◌∙◌, List, Some, ap, inl, inr, string_bytes, sym}
use Rattle.std.proofs.lemmas.Result.{IfOk-weaker}
use Rattle.tpm_types.specs.declared.tpms.Selection.{Selection}
use Rattle.tpm_lists.specs.Extensions.{Extension}
use Rattle.tpm_lists.specs.declared.allow_file.AllowFile.TheVariants.{Digests}
use Rattle.tpm_check.specs.AllowTold.{on_found}
use Rattle.tpm_check.specs.AllowedBoot.{on_quoted}
use Rattle.tpm_check.specs.Compare.{printed}
use Rattle.tpm_check.specs.inner.Told.{quote_by}
use Rattle.tpm_check.proofs.AllowedBoots.{said_likewise, selected_digests}
use Rattle.tpm_check.proofs.allowed_boot.answer_to_found.Goals as goal

pub returns-in-Ok : goal.returns-in-Ok
returns-in-Ok c =
    let o = c.args.quote.options.now in
    let list = c.args.list.now in
    let registers = c.in-Ok.registers.now in
    let found = c.as_slice-found.result.now in
    IfOk-weaker c.answer_beside.result _ _ (λ a says. λ bytes looked.
    let r = c.in-Ok.ensures list bytes looked in
    let same : (s : List Selection) → on_found o.form list s found ≡ on_quoted o (Some (Digests list)) r.0 s = λ s.
    ap (λ (xs : List Extension). on_found o.form list s xs) (c.as_slice-found.ensures.value ∙ r.3)
    ∙ sym (selected_digests (record { options = o; selections = s; log = r.0 }) list c.requires) in
    inl (
      r.0,
      r.1,
      (
        registers,
        r.2,
        said_likewise (quote_by c.args.quote) (λ s. on_found o.form list s found) (on_quoted o (Some (Digests list)) r.0) same registers
            (printed a.status (string_bytes a.text)) says,
      ),
    )) c.answer_beside.ensures

pub returns-in-Err : goal.returns-in-Err
returns-in-Err c =
    IfOk-weaker c.log_fault_answer.result _ _ (λ a said. λ bytes looked.
    inr (c.in-Err.fault, c.in-Err.ensures c.args.list.now bytes looked, said)) c.log_fault_answer.ensures
