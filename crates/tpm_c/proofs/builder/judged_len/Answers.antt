use Rattle.std.proofs.Common.{refl, sym, ◌∙◌, arith}
use Rattle.std.proofs.lemmas.List.{take_all}
use Rattle.tpm_c.proofs.builder.judged_len.Goals as goal

pub returns-then-len-gt-JUDGED_BYTES-clause-first : goal.returns-then-len-gt-JUDGED_BYTES-clause-first
returns-then-len-gt-JUDGED_BYTES-clause-first c bytes is = refl

pub returns-else-len-gt-JUDGED_BYTES-clause-first : goal.returns-else-len-gt-JUDGED_BYTES-clause-first
returns-else-len-gt-JUDGED_BYTES-clause-first c bytes is =
    take_all c.args.len bytes (omega (arith, is))
    ∙ sym (take_all 1101 bytes (omega (arith, is, c.if-len-gt-JUDGED_BYTES.false)))
