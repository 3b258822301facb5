use Rattle.std.proofs.Common.{rules, refl}
use Rattle.std.proofs.lemmas.Result.{err_from_is_err_and}
use Rattle.tpm_args.proofs.Found.{memory_or}
use Rattle.tpm_args.proofs.check.options.Goals as goal

pub returns : goal.returns
returns c = (
  c.in_ok-check_together.ensures.0,
  c.in_ok-check_together.ensures.1,
  (c.in_ok-nonce.ensures, c.in_ok-required.ensures, c.in_ok-signer.ensures, c.in_ok-hash.ensures),
  c.is_given.ensures,
  rw (c.is_given-2.ensures, c.has.ensures) refl,
  search rules,
  c.is_given-3.ensures,
  c.is_given-4.ensures,
  c.is_given-5.ensures,
  c.form_asked.ensures,
)

pub returns-in_err-check_together : goal.returns-in_err-check_together
returns-in_err-check_together c =
    let p = err_from_is_err_and c.from_residual.result c.from_residual.ensures.1 in
    rw (p.1, p.2) (memory_or c.in_err-check_together.field-0.0 (λ none options are. none (are.0, are.1)) c.in_err-check_together.ensures)

pub returns-in_err-nonce : goal.returns-in_err-nonce
returns-in_err-nonce c =
    let p = err_from_is_err_and c.from_residual-in_err-nonce.result c.from_residual-in_err-nonce.ensures.1 in
    rw (p.1, p.2) (memory_or c.in_err-nonce.field-0.0 (λ none options are. none options.nonce are.2.0) c.in_err-nonce.ensures)

pub returns-in_err-required : goal.returns-in_err-required
returns-in_err-required c =
    let p = err_from_is_err_and c.from_residual-in_err-required.result c.from_residual-in_err-required.ensures.1 in
    rw (p.1, p.2) (memory_or c.in_err-required.field-0.0 (λ none options are. none options.required are.2.1) c.in_err-required.ensures)

pub returns-in_err-signer : goal.returns-in_err-signer
returns-in_err-signer c =
    let p = err_from_is_err_and c.from_residual-in_err-signer.result c.from_residual-in_err-signer.ensures.1 in
    rw (p.1, p.2) (memory_or c.in_err-signer.field-0.0 (λ none options are. none options.signer are.2.2) c.in_err-signer.ensures)

pub returns-in_err-hash : goal.returns-in_err-hash
returns-in_err-hash c =
    let p = err_from_is_err_and c.from_residual-in_err-hash.result c.from_residual-in_err-hash.ensures.1 in
    rw (p.1, p.2) (memory_or c.in_err-hash.field-0.0 (λ none options are. none options.hash are.2.3) c.in_err-hash.ensures)
