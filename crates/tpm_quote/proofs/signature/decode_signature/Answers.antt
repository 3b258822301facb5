use Rattle.std.proofs.Common.{Ok, Err, sym, ◌∙◌, arith}
use Rattle.std.proofs.lemmas.Result.{err_from_is_err_and}
use Rattle.tpm_wire.proofs.Alone.{ends_so, goes_on_so, whole_read, whole_refused, whole_decodes}
use Rattle.tpm_quote.specs.Signatures.{signature}
use Rattle.tpm_quote.proofs.Quotes.{all_of_them}
use Rattle.tpm_quote.proofs.Signed.{of_signature}
use Rattle.tpm_quote.proofs.signature.decode_signature.Goals as goal

pub returns-clause-decodes : goal.returns-clause-decodes
returns-clause-decodes c =
    whole_decodes 518 signature of_signature (omega arith) c.args.bytes.now (Ok c.in_ok-signature.signature)
    (whole_read signature c.args.bytes.now c.of_whole-cursor.result c.in_ok-signature.signature c.take.new.cursor.here
    (Ok c.in_ok-signature.signature) c.of_whole-cursor.ensures c.in_ok-signature.ensures.reads.0
    (ends_so c.args.bytes.now c.take.new.cursor.here c.in_ok-signature.signature c.in_ok-end_of_whole.field-0
    (sym c.end_of_whole.ensures ∙ c.in_ok-end_of_whole.was {u = tt})))

pub returns-clause-spelled : goal.returns-clause-spelled
returns-clause-spelled c =
    all_of_them signature c.args.bytes.now c.of_whole-cursor.result c.in_ok-signature.signature c.take.new.cursor.here
    c.in_ok-end_of_whole.field-0 c.of_whole-cursor.ensures c.in_ok-signature.ensures.spelled
    (sym c.end_of_whole.ensures ∙ c.in_ok-end_of_whole.was {u = tt})

pub returns-in_err-signature-clause-decodes : goal.returns-in_err-signature-clause-decodes
returns-in_err-signature-clause-decodes c =
    let p = err_from_is_err_and c.from_residual.result c.from_residual.ensures.1 in
    rw (p.1, p.2)
    (whole_decodes 518 signature of_signature (omega arith) c.args.bytes.now (Err c.in_err-signature.field-0.0)
    (whole_refused signature c.args.bytes.now c.of_whole-cursor.result c.in_err-signature.field-0.0
    c.of_whole-cursor.ensures c.in_err-signature.ensures.reads))

pub returns-in_err-end_of_whole-clause-decodes : goal.returns-in_err-end_of_whole-clause-decodes
returns-in_err-end_of_whole-clause-decodes c =
    let p = err_from_is_err_and c.from_residual-in_err-end_of_whole.result c.from_residual-in_err-end_of_whole.ensures.1 in
    let e = c.in_err-end_of_whole.field-0.0 in
    rw (p.1, p.2)
    (whole_decodes 518 signature of_signature (omega arith) c.args.bytes.now (Err e)
    (whole_read signature c.args.bytes.now c.of_whole-cursor.result c.in_ok-signature.signature c.take.new.cursor.here
    (Err e) c.of_whole-cursor.ensures c.in_ok-signature.ensures.reads.0
    (goes_on_so c.args.bytes.now c.take.new.cursor.here c.in_ok-signature.signature e
    (sym c.end_of_whole.ensures ∙ c.in_err-end_of_whole.was))))
