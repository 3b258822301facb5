use Rattle.std.proofs.Common.{◌≡◌, ◌∙◌, ◌||◌, ◌++◌, Bool, ap, is_some, string_bytes, subst, sym}
use Rattle.std.proofs.lemmas.Result.{IfOk-weaker}
use Rattle.tpm_output.specs.declared.status.Status.TheVariants.{Refused}
use Rattle.tpm_output.specs.declared.status.Status.{Status}
use Rattle.tpm_output.specs.Status.{both}
use Rattle.tpm_output.proofs.Joins.{joins_appends}
use Rattle.tpm_check.specs.Asked.{asked_by}
use Rattle.tpm_check.specs.CheckJson.{ok_text}
use Rattle.tpm_check.specs.Checked.{ChecksSigned, ChecksValues}
use Rattle.tpm_check.specs.Compare.{compared, printed}
use Rattle.tpm_check.specs.inner.Told.{told}
use Rattle.tpm_check.proofs.Verdicts.{all_compared, all_ended}
use Rattle.tpm_check.proofs.checked.print_to_end.Goals as goal

pub returns-in_default-clause-ok : goal.returns-in_default-clause-ok
returns-in_default-clause-ok g c =
    let b = told c.args.found.now in
    let a = asked_by c.args.asked.now in
    let contents = g.W.Write.contents in
    let text = string_bytes c.in_ok-answer_to_signed.field-0.text in
    let done = c.in_ok-first.ensures.ok in
    let said = subst (λ (s : Status). ChecksSigned b a (printed s text)) (sym done.0) c.in_ok-answer_to_signed.ensures in
    let listed = rw c.in_default.is at c.in_ok-second.ensures.ok in
    let lines = (compared b listed.0).text in
    let end = ok_text b.form Refused in
    IfOk-weaker c.print_ok.result _ _ (λ status ended. (
      listed.0,
      text ++ (lines ++ end),
      listed.1,
      all_ended b a listed.0 c.in_ok-first.first text said status listed.3 ended.0,
      joins_appends (contents c.args.out.now) (contents c.print.new.out) (contents c.print_ok.new.out) text (lines ++ end) done.1
          (joins_appends (contents c.print.new.out) (contents c.check_list.new.out) (contents c.print_ok.new.out) lines end listed.4 ended.1),
    )) c.print_ok.ensures.ok

pub returns-clause-ok : goal.returns-clause-ok
returns-clause-ok g c =
    let b = told c.args.found.now in
    let a = asked_by c.args.asked.now in
    let contents = g.W.Write.contents in
    let first = c.in_ok-first.first in
    let third = c.in_ok-third.third in
    let text = string_bytes c.in_ok-answer_to_signed.field-0.text in
    let done = c.in_ok-first.ensures.ok in
    let said = subst (λ (s : Status). ChecksSigned b a (printed s text)) (sym done.0) c.in_ok-answer_to_signed.ensures in
    let listed = rw c.in-Some.is at c.in_ok-second.ensures.ok in
    let lines = (compared b listed.0).text in
    let last = string_bytes c.in_ok-answer_last.field-0.text in
    let valued = c.in_ok-third.ensures.ok in
    let values = subst (λ (s : Status). ChecksValues b a.options c.is_compared-others.result (printed s last)) (sym valued.0) c.in_ok-answer_last.ensures in
    let others : c.is_compared-others.result ≡ (is_some a.attest || is_some listed.0) =
    c.is_compared-others.ensures ∙ ap (λ (list : Bool). is_some a.attest || list) (sym listed.2) in
    let both_is : c.both-2.result ≡ both first (both c.in-Some.second third) = c.both-2.ensures ∙ ap (both first) c.both.ensures in
    let end = ok_text b.form (both first (both c.in-Some.second third)) in
    IfOk-weaker c.print_ok-2.result _ _ (λ status told.
    let ended = rw both_is at told in (
      listed.0,
      text ++ (lines ++ (last ++ end)),
      listed.1,
      all_compared b a listed.0 first text said c.is_compared-others.result c.in-Some.second third status last others listed.3 values ended.0,
      joins_appends (contents c.args.out.now) (contents c.print.new.out) (contents c.print_ok-2.new.out) text (lines ++ (last ++ end)) done.1
          (joins_appends (contents c.print.new.out) (contents c.check_list.new.out) (contents c.print_ok-2.new.out) lines (last ++ end) listed.4
          (joins_appends (contents c.check_list.new.out) (contents c.print-2.new.out) (contents c.print_ok-2.new.out) last end valued.1 ended.1)),
    )) c.print_ok-2.ensures.ok
