use Rattle.std.proofs.Common.{sym, subst, ap, ◌∙◌, length}
use Rattle.tpm_c.specs.Parts.{part}
use Rattle.tpm_c.proofs.Texts.{TextBegins, at_front, begins_of}
use Rattle.tpm_c.proofs.record_text.tpm_log_text.Goals as goal

pub returns-in-Text : goal.returns-in-Text
returns-in-Text c =
    let same = c.in-Text.ensures in
    let begins = subst (TextBegins c.args.bytes.now) (sym same) (begins_of c.args.kind c.args.bytes.now) in
    let placed = c.tell_text.ensures.0 ∙ ap (λ text. part 0 (length text)) c.as_bytes.ensures.value in
    rw (sym same) (at_front _ _ _ _ begins placed c.tell_text.ensures.1)

pub returns-in-Units : goal.returns-in-Units
returns-in-Units c =
    let same = c.in-Units.ensures in
    let begins = subst (TextBegins c.args.bytes.now) (sym same) (begins_of c.args.kind c.args.bytes.now) in
    rw (sym same) (at_front _ _ _ _ begins c.tell_text-in-Units.ensures.0 c.tell_text-in-Units.ensures.1)

pub returns-in-Version : goal.returns-in-Version
returns-in-Version c =
    let same = c.in-Version.ensures in
    let begins = subst (TextBegins c.args.bytes.now) (sym same) (begins_of c.args.kind c.args.bytes.now) in
    rw (sym same) (at_front _ _ _ _ begins c.tell_text-in-Version.ensures.0 c.tell_text-in-Version.ensures.1)
